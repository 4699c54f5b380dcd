-- Laws over lists of commands: issues stand, a week is published once, and what is kept of drivers moves by publications alone.
use Rattle.std.specs.Prelude.{◌≡◌, ℕ, ℤ, ◌⊎◌, List, map, Option, Some, Result, Ok, Err}
use Rattle.minute_line.specs.declared.dates.Monday.{Monday}
use Rattle.desk_keeper.specs.Tables.{Tables, IssueFields}
use Rattle.desk_keeper.specs.Entries.{issue_in, next_receipt}
use Rattle.desk_core.specs.declared.commands.Command.{Command}
use Rattle.desk_core.specs.declared.commands.Command.TheVariants as ask
use Rattle.desk_core.specs.declared.refusals.Refusal.{Refusal}
use Rattle.desk_core.specs.declared.refusals.Refusal.TheVariants as because
use Rattle.desk_core.specs.Issuing.{IsPublication}
use Rattle.desk_core.specs.Machine.{Steps, Plays, Replied, answered}

-- an issue stands, as it is, after every list of commands
abbrev pub IssuesStand : Type 0
IssuesStand = (commands : List Command) (replies : List (Result (List ℕ) Refusal)) (before after : Tables) (day : ℤ) (issue : IssueFields)
    → Plays commands before replies after → issue_in before day ≡ Some issue → issue_in after day ≡ Some issue

-- a week is published at most once: whatever was played since, a further publication is refused with the first one's receipt, and
-- changes nothing
abbrev pub PublishedOnce : Type 0
PublishedOnce = (monday : Monday) (revision other : ℕ) (told : List ℕ) (before published later after : Tables) (commands : List Command)
    (replies : List (Result (List ℕ) Refusal)) (reply : Result (List ℕ) Refusal)
    → Steps (ask.Publish monday revision) before (Ok told) published → Plays commands published replies later → Steps (ask.Publish monday other) later reply after
    → IsPublication monday (next_receipt before) told × (reply ≡ Err (because.Published monday (next_receipt before))) × (after ≡ later)

-- a publication that was done
pub record IsPublished (command : Command) (reply : Result (List ℕ) Refusal) : Type 0 where
  pub monday : Monday
  pub revision : ℕ
  pub asked : command ≡ ask.Publish monday revision
  pub told : List ℕ
  pub done : reply ≡ Ok told

-- what is kept of drivers changes at a publication that is done, and nowhere else
abbrev pub HistoriesStand : Type 0
HistoriesStand = (command : Command) (reply : Result (List ℕ) Refusal) (before after : Tables) → Steps command before reply after
    → (after.histories ≡ before.histories) ⊎ IsPublished command reply

-- replies over tables that are told, each done or refused, are the machine's, and so are the tables after them
abbrev pub RepliesAreItsSteps : Type 0
RepliesAreItsSteps = (commands : List Command) (before : Tables) (said : List (Result (List ℕ) Refusal)) (after : Option Tables)
    → Replied commands (Some before) (map answered said) after → (last : Tables) × (after ≡ Some last) × Plays commands before said last
