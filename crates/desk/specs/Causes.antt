-- What each status says of a run.
use Rattle.std.specs.Prelude.{◌≡◌, ◌≢◌, ⊤, ℕ, ◌<◌, ◌≤◌, ◌⊎◌, List, length, Option, Some, None, Ok, Err}
use Rattle.desk_io.specs.Device.{counted_up, GivesBytes, Takes, NothingLeft}
use Rattle.duty_plan.specs.declared.outcomes.Limits.{Limits}
use Rattle.week_maker.specs.MadeWeeks.{made_text}
use Rattle.desk_core.specs.declared.commands.Command.{Command}
use Rattle.desk_core.specs.declared.commands.Command.TheVariants as command
use Rattle.desk_core.specs.declared.commands.Reply.TheVariants.{Refused}
use Rattle.desk_core.specs.declared.refusals.Refusal.{Refusal}
use Rattle.desk_core.specs.declared.refusals.Refusal.TheVariants.{Long}
use Rattle.desk_core.specs.Answering.{IsKeptRefusal}
use Rattle.desk_core.specs.Causes.{HasCause, IsIssueRefusal, IsNoDraft}
use Rattle.desk_core.specs.Checking.{check_said}
use Rattle.desk_core.specs.Drafting.{WeekText, text_said}
use Rattle.desk_core.specs.Lines.{IsRefusalText}
use Rattle.desk_core.specs.Machine.{IsReply}
use Rattle.desk_core.specs.Planning.{case_said}
use Rattle.desk_words.specs.Asks.{asked_by}
use Rattle.desk_words.specs.declared.asks.Ask.{Ask}
use Rattle.desk_words.specs.declared.asks.Ask.TheVariants.{Plan, Check, Publish, Show, Export, Make, Serve}
use Rattle.desk.specs.Office.{Shelf, Office}
use Rattle.desk_csv.specs.declared.reading.TheConstants.{TEXT_LIMIT}
use Rattle.desk.specs.Saying.{status_of}
use Rattle.desk.specs.Running.{Runs}
use Rattle.desk.specs.Succeeding.{IsPlanned, IsMade, IsChecked}

-- the words are no command, or ask for a server, which is no single run
abbrev pub IsNoCommand : Option Ask → Type 0
IsNoCommand None = ⊤
IsNoCommand (Some (Serve port count)) = ⊤
IsNoCommand (Some _) = ⊥

-- a text is read
abbrev pub Reads : Option Ask → Type 0
Reads (Some (Plan limits)) = ⊤
Reads (Some Check) = ⊤
Reads _ = ⊥

-- the keeper is asked
abbrev pub AsksKeeper : Option Ask → Type 0
AsksKeeper (Some (Plan limits)) = ⊤
AsksKeeper (Some (Publish monday revision)) = ⊤
AsksKeeper (Some (Show monday)) = ⊤
AsksKeeper (Some (Export monday)) = ⊤
AsksKeeper _ = ⊥

-- a text was read to its end, of which this holds
abbrev pub HasText : (List ℕ → Type 0) → Office → Office → Type 0
HasText holds before after = (text : List ℕ) × GivesBytes before.source.bytes text after.source.bytes × (length text ≤ TEXT_LIMIT)
    × NothingLeft after.source.bytes × holds text

-- more bytes were read than a text may have
abbrev pub IsLong : Office → Office → Type 0
IsLong before after = (given : List ℕ) × GivesBytes before.source.bytes given after.source.bytes × (TEXT_LIMIT < length given)

-- a text is too long, or was read to its end and is refused
abbrev pub RefusesRead : (List ℕ → Type 0) → Office → Office → Refusal → Type 0
RefusesRead refuses before after refusal = ((refusal ≡ Long) × IsLong before after) ⊎ HasText refuses before after

-- the text is at fault: that on the source, or that of the made week
abbrev pub RefusesText : Option Ask → Office → Office → Refusal → Type 0
RefusesText (Some (Plan limits)) before after refusal = RefusesRead (λ text. text_said text ≡ Err refusal) before after refusal
RefusesText (Some Check) before after refusal = RefusesRead (λ text. check_said text ≡ Err refusal) before after refusal
RefusesText (Some (Make seed limits)) before after refusal =
    ((refusal ≡ Long) × (TEXT_LIMIT < length (made_text seed))) ⊎ (case_said (made_text seed) ≡ Err refusal)
RefusesText _ before after refusal = ⊥

-- where the tables are told, the refusal is that of the machine
abbrev pub IsStep : Command → Shelf → Shelf → Refusal → Type 0
IsStep command before after refusal = IsReply command before.tables (Refused refusal) after.tables

-- an accepted text is refused for what is kept
abbrev pub RefusesWeek : (List ℕ → Command) → List ℕ → Office → Office → Refusal → Type 0
RefusesWeek command text before after refusal =
    ((read : WeekText) × (text_said text ≡ Ok read) × IsKeptRefusal read refusal) × IsStep (command text) before.shelf after.shelf refusal

-- what is kept is at fault; of a made week, that it lacks a history
abbrev pub RefusesKept : Option Ask → Office → Office → Refusal → Type 0
RefusesKept (Some (Plan limits)) before after refusal =
    HasText (λ text. RefusesWeek (λ t. command.Plan t limits) text before after refusal) before after
RefusesKept (Some (Publish monday revision)) before after refusal =
    IsIssueRefusal monday revision refusal × IsStep (command.Publish monday revision) before.shelf after.shelf refusal
RefusesKept (Some (Show monday)) before after refusal = IsNoDraft monday refusal × IsStep (command.Show monday) before.shelf after.shelf refusal
RefusesKept (Some (Export monday)) before after refusal = IsNoDraft monday refusal × IsStep (command.Export monday) before.shelf after.shelf refusal
RefusesKept (Some (Make seed limits)) before after refusal = case_said (made_text seed) ≡ Err refusal
RefusesKept _ before after refusal = ⊥

-- a refusal of that status and of such a cause was told by its line
pub record IsRefusedFor (cause : Refusal → Type 0) (status : ℕ) (before after : Office) : Type 0 where
  pub refusal : Refusal
  pub is_status : status_of refusal ≡ status
  pub because : cause refusal
  pub named : HasCause refusal
  pub line : List ℕ
  pub is_line : IsRefusalText refusal line
  pub told : Takes before.sink.bytes line after.sink.bytes

-- the statuses: 0, and 2 to 8
abbrev pub IsStatus : ℕ → Type 0
IsStatus status = (status ≢ 1) × (status ≤ 8)

-- what a status says of a run: what a plan, a made week and a check have done that end with 0; why a run ends otherwise, and what stands
-- then; and what stays as it was, whatever the status
pub record Shows (asked : Option Ask) (before after : Office) (status : ℕ) : Type 0 where
  pub statuses : IsStatus status
  pub planned : status ≡ 0 → (limits : Limits) → asked ≡ Some (Plan limits) → IsPlanned limits before after
  pub made : status ≡ 0 → (seed : ℕ) (limits : Limits) → asked ≡ Some (Make seed limits) → IsMade seed limits before after
  pub checked : status ≡ 0 → asked ≡ Some Check → IsChecked before after
  pub no_fault : status ≡ 0 → (after.source.faults ≡ before.source.faults) × (after.sink.faults ≡ before.sink.faults) × (after.shelf.faults ≡ before.shelf.faults)
  pub usage_only : status ≡ 2 → IsNoCommand asked
  pub usage : IsNoCommand asked → (status ≡ 2) ⊎ ((status ≡ 6) ⊎ (status ≡ 8))
  pub refused : status ≡ 3 → IsRefusedFor (RefusesText asked before after) 3 before after
  pub missing : status ≡ 4 → IsRefusedFor (RefusesKept asked before after) 4 before after
  pub read_cause : status ≡ 5 → after.source.faults ≡ counted_up before.source.faults
  pub sink_cause : status ≡ 6 → after.sink.faults ≡ counted_up before.sink.faults
  pub keeper_cause : status ≡ 7 → (after.shelf.faults ≡ counted_up before.shelf.faults) × (after.shelf.tables ≡ before.shelf.tables)
  pub wants : status ≡ 8 → (after.sink ≡ before.sink) × (after.shelf ≡ before.shelf)
  pub source_stays : ¬ Reads asked → after.source ≡ before.source
  pub keeper_stays : ¬ AsksKeeper asked → after.shelf ≡ before.shelf

-- a run, by its words: what is said of what they ask for is told with its status, and what the status says holds
pub record IsRun (words : List (List ℕ)) (before after : Office) (status : ℕ) : Type 0 where
  pub run : Runs (asked_by words) before after status
  pub shows : Shows (asked_by words) before after status
