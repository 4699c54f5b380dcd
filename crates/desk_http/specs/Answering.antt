-- The answer to a request, and what is kept after it.
use Rattle.std.specs.Prelude.{◌≡◌, ⊤, ℕ, ◌==◌, if◌then◌else◌, List, Option, Result, Ok, Err}
use Rattle.minute_line.specs.declared.many.Memory.{Memory}
use Rattle.desk_io.specs.Device.{counted_up}
use Rattle.desk_keeper.specs.Tables.{Tables}
use Rattle.desk_core.specs.Lines.{IsRefusalText, keeper_fault_line}
use Rattle.desk_core.specs.Answering.{IsAnswer, IsPlannedWeek}
use Rattle.desk_core.specs.Machine.{IsReply}
use Rattle.desk_core.specs.declared.commands.Command.{Command}
use Rattle.desk_core.specs.declared.commands.Command.TheVariants as ask
use Rattle.desk_core.specs.declared.commands.Reply.{Reply}
use Rattle.desk_core.specs.declared.commands.Reply.TheVariants as reply
use Rattle.desk_core.specs.declared.refusals.Refusal.{Refusal}
use Rattle.desk_core.specs.declared.refusals.Refusal.TheVariants.{Long as TooLong, Csv, Week, Past, Line, NoDraft}
use Rattle.desk_http.specs.declared.answers.Answer.{Answer}
use Rattle.desk_http.specs.declared.answers.Kind.{Kind}
use Rattle.desk_http.specs.declared.answers.Kind.TheVariants.{Done, Bad, Lost, Conflict, Fault}
use Rattle.desk_http.specs.declared.early.Early.{Early}
use Rattle.desk_http.specs.Answers.{kind_of, early_line, HasBody}
use Rattle.desk_words.specs.Asks.{usual_limits}
use Rattle.desk_http.specs.Requests.{Asks}

-- the kind of an answer to a command that found no draft: what is looked for is not there, or what is to change is not
abbrev pub undrafted_kind : Command → Kind
undrafted_kind (ask.Show monday) = Lost
undrafted_kind (ask.Export monday) = Lost
undrafted_kind command = Conflict

-- the kind of an answer to a refused command: the text is at fault, or what is kept is
abbrev pub refused_kind : Command → Refusal → Kind
refused_kind command TooLong = Bad
refused_kind command (Csv error) = Bad
refused_kind command (Week error) = Bad
refused_kind command (Past name error) = Bad
refused_kind command (Line name error) = Bad
refused_kind command (NoDraft monday) = undrafted_kind command
refused_kind command refusal = Conflict

-- the answer to a command by the desk's reply
abbrev pub IsReplied : Command → Reply → Answer → Type 0
IsReplied command (reply.Done text) answer = HasBody Done text answer
IsReplied command (reply.Refused refusal) answer = (text : List ℕ) × IsRefusalText refusal text × HasBody (refused_kind command refusal) text answer
IsReplied command reply.KeeperFault answer = HasBody Fault keeper_fault_line answer
IsReplied command reply.Memory answer = ⊥

-- a reply in whose place want of memory may be told: it changed nothing
abbrev pub IsUnsaid : Reply → Type 0
IsUnsaid (reply.Done text) = ⊥
IsUnsaid (reply.Refused refusal) = ⊤
IsUnsaid reply.KeeperFault = ⊥
IsUnsaid reply.Memory = ⊤

-- the answer to what a request asks for, with the tables before and after it; the reply is one to the command over every keeper
abbrev pub IsAnswered : Result Command Early → Option Tables → Answer → Option Tables → Type 0
IsAnswered (Err early) before answer after = HasBody (kind_of early) (early_line early) answer × (after ≡ before)
IsAnswered (Ok command) before answer after = (said : Reply) × IsReply command before said after × IsAnswer command said × IsReplied command said answer

-- the answer to a request, with the tables before and after it
abbrev pub IsAnswerTo : List ℕ → Option Tables → Answer → Option Tables → Type 0
IsAnswerTo request before answer after = (asked : Result Command Early) × Asks request asked × IsAnswered asked before answer after

-- a week that is planned with 200 is told by the report of a lawful plan of it
abbrev pub PlansWeek : List ℕ → Answer → Type 0
PlansWeek request answer =
    (text : List ℕ) → Asks request (Ok (ask.Plan text usual_limits)) → answer.status ≡ 200
    → (report : List ℕ) × IsPlannedWeek usual_limits text report × HasBody Done report answer

-- an answer to a request; or memory was wanted, and nothing changed
abbrev pub Answers : List ℕ → Option Tables → Result Answer Memory → Option Tables → Type 0
Answers request before (Ok answer) after = IsAnswerTo request before answer after
Answers request before (Err memory) after = after ≡ before

-- how many of the keeper's calls failed, after an answer of that status: 503 says that one did
abbrev pub faults_with : ℕ → ℕ → ℕ
faults_with status faults = if status == 503 then counted_up faults else faults

-- how many of the keeper's calls failed, after an answer
abbrev pub faults_after : ℕ → Result Answer Memory → ℕ
faults_after faults (Ok answer) = faults_with answer.status faults
faults_after faults (Err memory) = faults
