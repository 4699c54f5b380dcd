-- What the desk says: a status, and the text that goes with it.
use Rattle.std.specs.Prelude.{◌≡◌, ⊤, ℕ, ◌<◌, ◌⊎◌, List, [], ◌∷◌, ◌++◌, length, Result, Ok, Err, codes}
use Rattle.duty_plan.specs.declared.outcomes.Limits.{Limits}
use Rattle.duty_plan.specs.declared.outcomes.Outcome.{Outcome}
use Rattle.duty_plan.specs.declared.plans.Case.{Case}
use Rattle.duty_plan.specs.Duties.{IsCase}
use Rattle.duty_plan.specs.Trees.{IsRight}
use Rattle.week_maker.specs.MadeWeeks.{made_text}
use Rattle.week_maker.specs.declared.weeks.TheConstants.{ROW_COUNT}
use Rattle.desk_csv.specs.declared.reading.TheConstants.{TEXT_LIMIT}
use Rattle.desk_core.specs.declared.commands.Reply.{Reply}
use Rattle.desk_core.specs.declared.commands.Reply.TheVariants.{Done, Refused, KeeperFault, Memory}
use Rattle.desk_core.specs.declared.refusals.Refusal.{Refusal}
use Rattle.desk_core.specs.declared.refusals.Refusal.TheVariants.{Long, Csv, Week, Past, Line}
use Rattle.desk_core.specs.declared.refusals.Stop.{Stop}
use Rattle.desk_core.specs.declared.refusals.Stop.TheVariants as stop
use Rattle.desk_core.specs.Books.{book}
use Rattle.desk_core.specs.Causes.{HasCause}
use Rattle.desk_core.specs.Lines.{IsRefusalText, keeper_fault_line}
use Rattle.desk_core.specs.Planning.{Book, case_said}
use Rattle.desk_report.specs.Summaries.{summary_text}

-- a status, and its text
pub record Said : Type 0 where
  pub status : ℕ
  pub text : List ℕ

-- a status with its line
abbrev pub line_said : ℕ → List ℕ → Said
line_said status line = record { status = status; text = line ++ 10 ∷ [] }

-- the words are no command
abbrev pub usage : Said
usage = line_said 2 (codes "usage: desk plan|check|publish|show|export|make|serve [--name value]")

-- the source failed
abbrev pub read_fault : Said
read_fault = line_said 5 (codes "refused read")

-- the keeper failed
abbrev pub keeper_fault : Said
keeper_fault = record { status = 7; text = keeper_fault_line }

-- the command was done, and this is its text
abbrev pub done : List ℕ → Said
done text = record { status = 0; text = text }

-- the status of a refusal: 3 where the text is at fault, 4 where what is kept is
abbrev pub status_of : Refusal → ℕ
status_of Long = 3
status_of (Csv error) = 3
status_of (Week error) = 3
status_of (Past name error) = 3
status_of (Line name error) = 3
status_of _ = 4

-- a refusal, with its line
abbrev pub IsRefused : Refusal → Said → Type 0
IsRefused refusal said = (said.status ≡ status_of refusal) × IsRefusalText refusal said.text

-- what is said of a reply; for want of memory nothing is
abbrev pub SaysReply : Reply → Said → Type 0
SaysReply (Done text) said = said ≡ done text
SaysReply (Refused refusal) said = IsRefused refusal said
SaysReply KeeperFault said = said ≡ keeper_fault
SaysReply Memory said = ⊥

-- what is said is the summary of an outcome that is right within the limits, of the case that is said
pub record IsSummaryOf (seed : ℕ) (limits : Limits) (of : Book) (said : Said) : Type 0 where
  pub case : Case
  pub is_said : book case ≡ of
  pub valid : IsCase case
  pub outcome : Outcome
  pub right : IsRight case limits outcome
  pub told : said ≡ done (summary_text seed case.week ROW_COUNT outcome)

-- what is said of a made text by what it comes to: the summary of its plan, or its refusal
abbrev pub SaysSolved : ℕ → Limits → Result Book Refusal → Said → Type 0
SaysSolved seed limits (Ok of) said = IsSummaryOf seed limits of said
SaysSolved seed limits (Err refusal) said = IsRefused refusal said × HasCause refusal

-- what is said of the week that a seed makes, which is a text as any other
abbrev pub SaysMade : ℕ → Limits → Said → Type 0
SaysMade seed limits said =
    ((TEXT_LIMIT < length (made_text seed)) × IsRefused Long said) ⊎ SaysSolved seed limits (case_said (made_text seed)) said

-- a made week comes to the text that is said of it, or to its refusal, unless memory was wanted
abbrev pub AnswersMade : ℕ → Limits → Result (List ℕ) Stop → Type 0
AnswersMade seed limits (Ok text) = SaysMade seed limits (done text)
AnswersMade seed limits (Err (stop.Refused refusal)) = (said : Said) → IsRefused refusal said → SaysMade seed limits said
AnswersMade seed limits (Err stop.Fault) = ⊥
AnswersMade seed limits (Err stop.Memory) = ⊤
