-- What a publication moves, after any list of commands.
use Rattle.std.specs.Prelude.{◌≡◌, ◌≢◌, ℕ, pos, ◌+ℤ◌, List, [], Some, Result, Ok, slice_get}
use Rattle.minute_line.specs.declared.dates.Monday.{Monday}
use Rattle.minute_line.specs.declared.lines.History.{History}
use Rattle.minute_line.specs.Histories.{fields_of}
use Rattle.week_book.specs.declared.weeks.Driver.{Driver}
use Rattle.driver_history.specs.Advancing.{advance_of}
use Rattle.duty_plan.specs.declared.duties.Duty.{Duty}
use Rattle.duty_plan.specs.declared.plans.Case.{Case}
use Rattle.duty_plan.specs.declared.outcomes.Outcome.{Outcome}
use Rattle.duty_plan.specs.Duties.{IsCase, IsLawfulPlan, partial_of}
use Rattle.duty_plan.specs.Stints.{stints_of}
use Rattle.desk_report.specs.Reports.{IsReportOf}
use Rattle.desk_keeper.specs.Tables.{Tables, KeptFields, DraftFields}
use Rattle.desk_keeper.specs.Entries.{history_in, draft_in, issue_in, next_receipt}
use Rattle.desk_keeper.specs.Changes.{issue_of}
use Rattle.desk_core.specs.declared.refusals.Refusal.{Refusal}
use Rattle.desk_core.specs.declared.commands.Command.{Command}
use Rattle.desk_core.specs.declared.commands.Command.TheVariants as ask
use Rattle.desk_core.specs.Machine.{Steps, Plays}

-- what is kept of a driver who had that history, after that duty: the history advanced by the duty, up to the Monday after the week
abbrev pub kept_after : Case → History → Duty → KeptFields
kept_after case history duty = record {
  monday = case.week.monday.day +ℤ pos 7;
  past = advance_of (fields_of history) (stints_of case.week (partial_of duty));
}

-- what is kept of driver k of a case is the history that the driver has there, after the driver's duty
pub record IsMovedOn (case : Case) (outcome : Outcome) (tables : Tables) (k : ℕ) (driver : Driver) : Type 0 where
  pub history : History
  pub had : slice_get case.past k ≡ Some history
  pub duty : Duty
  pub does : slice_get outcome.plan.duties k ≡ Some duty
  pub kept : history_in tables driver.name ≡ Some (kept_after case history duty)

-- the publication of a draft, which becomes the week's issue, moves on each driver of the lawful plan that its report prints, from the
-- history that the report prints; and no other driver
pub record MovesOn (monday : Monday) (revision : ℕ) (before after : Tables) : Type 0 where
  pub draft : DraftFields
  pub stood : draft_in before monday.day ≡ Some draft
  pub issued : issue_in after monday.day ≡ Some (issue_of (next_receipt before) draft)
  pub case : Case
  pub valid : IsCase case
  pub week : case.week.monday.day ≡ monday.day
  pub outcome : Outcome
  pub lawful : IsLawfulPlan case outcome.plan
  pub printed : IsReportOf case outcome revision draft.report
  pub moved : (k : ℕ) (driver : Driver) → slice_get case.week.drivers k ≡ Some driver → IsMovedOn case outcome after k driver
  pub others : (name : List ℕ) → ((k : ℕ) (driver : Driver) → slice_get case.week.drivers k ≡ Some driver → driver.name ≢ name)
      → history_in after name ≡ history_in before name

-- after any list of commands, over tables that held no draft at first, a publication that is done moves its drivers on
abbrev pub HistoriesMove : Type 0
HistoriesMove = (commands : List Command) (replies : List (Result (List ℕ) Refusal)) (first before after : Tables) (monday : Monday) (revision : ℕ) (told : List ℕ)
    → first.drafts ≡ [] → Plays commands first replies before → Steps (ask.Publish monday revision) before (Ok told) after
    → MovesOn monday revision before after
