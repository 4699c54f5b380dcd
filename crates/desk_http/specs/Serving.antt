-- One request of a link, and its answer: how much of a request is read, and what is written.
use Rattle.std.specs.Prelude.{◌≡◌, ⊤, ℕ, ◌<◌, ◌≤◌, Bool, true, false, List, ◌++◌, take, length, codes, Option, Some, IfSome, Result, Ok, Err}
use Rattle.minute_line.specs.declared.many.Memory.{Memory}
use Rattle.desk_io.specs.Device.{counted_up, NothingLeft, Takes}
use Rattle.desk_keeper.specs.Tables.{Tables}
use Rattle.desk_core.specs.Answering.{IsPlannedWeek}
use Rattle.desk_core.specs.declared.commands.Command.{Command}
use Rattle.desk_core.specs.declared.commands.Command.TheVariants as ask
use Rattle.desk_http.specs.declared.answers.Answer.{Answer}
use Rattle.desk_http.specs.declared.answers.Kind.TheVariants.{Done}
use Rattle.desk_http.specs.declared.early.Early.{Early}
use Rattle.desk_http.specs.declared.serving.Served.{Served}
use Rattle.desk_http.specs.declared.serving.Served.TheVariants.{Status, ReadFault, WriteFault}
use Rattle.desk_http.specs.declared.waiting.ReadStop.{ReadStop}
use Rattle.desk_http.specs.declared.waiting.ReadStop.TheVariants as stop
use Rattle.desk_http.specs.Answering.{Answers, faults_with}
use Rattle.desk_http.specs.Answers.{head_text}
use Rattle.desk_words.specs.Asks.{usual_limits}
use Rattle.desk_http.specs.Requests.{Asks}

-- a read came to the end of its source, or it gave some bytes
abbrev pub MayEnd : Bool → List ℕ → Option (List ℕ) → Type 0
MayEnd true given left = NothingLeft left
MayEnd false given left = 0 < length given

-- how many reads failed, after a reading that ends with the first that does
abbrev pub failed_reading : {A : Type 0} → ℕ → Result A ReadStop → ℕ
failed_reading faults (Ok value) = faults
failed_reading faults (Err stop.Fault) = counted_up faults
failed_reading faults (Err stop.Memory) = faults

-- these bytes ask for what all of the bytes ask for
abbrev pub AsksAs : List ℕ → List ℕ → Type 0
AsksAs all request = (asked : Result Command Early) → Asks request asked → Asks all asked

-- so many bytes tell what these ask for, whatever comes after them
abbrev pub IsEnough : List ℕ → ℕ → Type 0
IsEnough request n = (more later : List ℕ) → n ≤ length (request ++ more) → AsksAs ((request ++ more) ++ later) (request ++ more)

-- the bytes ask for what all that was left asks for, where that is told
abbrev pub StandsFor : Option (List ℕ) → List ℕ → Type 0
StandsFor left request = IfSome left (λ all. AsksAs all request)

-- the answer for want of memory
abbrev pub no_memory : List ℕ
no_memory = codes "HTTP/1.1 507 No Memory\r\ncontent-type: text/plain\r\ncontent-length: 7\r\nconnection: close\r\n\r\nmemory\n"

-- the bytes of an answer, or of that for want of memory
abbrev pub bytes_of : Result Answer Memory → List ℕ
bytes_of (Ok answer) = answer.head ++ answer.body
bytes_of (Err memory) = no_memory

-- its status
abbrev pub status_of : Result Answer Memory → ℕ
status_of (Ok answer) = answer.status
status_of (Err memory) = 507

-- what is told once an answer of that status was written
abbrev pub outcome_said : {A E : Type 0} → Result A E → ℕ → Served
outcome_said (Ok done) status = Status status
outcome_said (Err fault) status = WriteFault

-- all of an answer was written, and its status is told; or a write failed, and a beginning was written
abbrev pub Tells : List ℕ → ℕ → Served → Option (List ℕ) → Option (List ℕ) → Type 0
Tells bytes status (Status told) before after = (told ≡ status) × Takes before bytes after
Tells bytes status WriteFault before after = (n : ℕ) × (n < length bytes) × Takes before (take n bytes) after
Tells bytes status ReadFault before after = ⊥

-- an answer to these bytes was told
abbrev pub TellsAnswer : List ℕ → Option Tables → Option Tables → Option (List ℕ) → Option (List ℕ) → Served → Type 0
TellsAnswer request tables tables_after held held_after served =
    (said : Result Answer Memory) × Answers request tables said tables_after × Tells (bytes_of said) (status_of said) served held held_after

-- one request was served: it was answered, and it is all that was left where that is told; or a read failed, and nothing changed
abbrev pub Serves : Option (List ℕ) → Option Tables → Option Tables → Option (List ℕ) → Option (List ℕ) → Served → Type 0
Serves left tables tables_after held held_after ReadFault = (tables_after ≡ tables) × (held_after ≡ held)
Serves left tables tables_after held held_after served =
    (request : List ℕ) × IfSome left (λ all. request ≡ all) × TellsAnswer request tables tables_after held held_after served

-- where all that was left asks for the plan of a week, and 200 is told, the report of a lawful plan of it was written
abbrev pub TellsPlan : Option (List ℕ) → Option (List ℕ) → Option (List ℕ) → Served → Type 0
TellsPlan left held held_after served =
    (all text : List ℕ) → left ≡ Some all → Asks all (Ok (ask.Plan text usual_limits)) → served ≡ Status 200
    → (report : List ℕ) × IsPlannedWeek usual_limits text report × Takes held (head_text Done (length report) ++ report) held_after

-- how many reads failed, after a connection
abbrev pub reads_failed : ℕ → Served → ℕ
reads_failed faults (Status told) = faults
reads_failed faults ReadFault = counted_up faults
reads_failed faults WriteFault = faults

-- how many writes failed, after a connection
abbrev pub writes_failed : ℕ → Served → ℕ
writes_failed faults (Status told) = faults
writes_failed faults ReadFault = faults
writes_failed faults WriteFault = counted_up faults

-- the keeper failed once where the status is 503, and else not; where a write failed, no status is told
abbrev pub CountsFault : ℕ → Served → ℕ → Type 0
CountsFault faults (Status told) after = after ≡ faults_with told faults
CountsFault faults ReadFault after = after ≡ faults
CountsFault faults WriteFault after = ⊤
