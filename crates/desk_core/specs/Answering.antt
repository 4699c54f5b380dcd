-- What the desk answers to a command, said without the tables: it holds over every keeper.
use Rattle.std.specs.Prelude.{◌≡◌, ⊤, ◌⊎◌, ℕ, ◌≤◌, List, Option, Some, map, slice_get, Ok, Err}
use Rattle.minute_line.specs.Histories.{Fields, fields_of}
use Rattle.duty_plan.specs.declared.plans.Case.{Case}
use Rattle.duty_plan.specs.declared.outcomes.Limits.{Limits}
use Rattle.duty_plan.specs.declared.outcomes.Outcome.{Outcome}
use Rattle.duty_plan.specs.Duties.{IsCase}
use Rattle.duty_plan.specs.Trees.{IsRight}
use Rattle.desk_report.specs.Reports.{IsReportOf}
use Rattle.desk_keeper.specs.declared.records.TheConstants.{DRAFT_LIMIT}
use Rattle.desk_core.specs.declared.commands.Command.{Command}
use Rattle.desk_core.specs.declared.commands.Command.TheVariants as ask
use Rattle.desk_core.specs.declared.commands.Reply.{Reply}
use Rattle.desk_core.specs.declared.commands.Reply.TheVariants.{Done, Refused, KeeperFault, Memory}
use Rattle.desk_core.specs.declared.refusals.Refusal.{Refusal}
use Rattle.desk_core.specs.Causes.{HasCause, IsWeekRefusal, IsDriverRefusal, IsIssueRefusal, IsNoDraft}
use Rattle.desk_core.specs.Checking.{check_said}
use Rattle.desk_core.specs.Drafting.{WeekText, text_said}
use Rattle.desk_core.specs.Issuing.{IsPublication}

-- each driver of whom the text has a history is planned with that one
abbrev pub HoldsTheTexts : List (Option Fields) → List Fields → Type 0
HoldsTheTexts texts past = (k : ℕ) (history : Fields) → slice_get texts k ≡ Some (Some history) → slice_get past k ≡ Some history

-- the text is the report of a week text's week: of an outcome that is right within the limits for its case, whose histories are the
-- text's where it has them, and of a revision
pub record IsPlannedWeek (limits : Limits) (text report : List ℕ) : Type 0 where
  pub read : WeekText
  pub accepted : text_said text ≡ Ok read
  pub case : Case
  pub valid : IsCase case
  pub week : case.week ≡ read.week
  pub past : HoldsTheTexts read.past (map fields_of case.past)
  pub outcome : Outcome
  pub right : IsRight case limits outcome
  pub revision : ℕ
  pub range : (1 ≤ revision) × (revision ≤ DRAFT_LIMIT)
  pub reported : IsReportOf case outcome revision report

-- why a week that was read is refused for what is kept: for its own sake, or for a driver's
abbrev pub IsKeptRefusal : WeekText → Refusal → Type 0
IsKeptRefusal read refusal = IsWeekRefusal read.week.monday refusal ⊎ IsDriverRefusal read.week.monday read.week.drivers read.past refusal

-- why no draft is made of a week text: the text's own refusal; or it is accepted, and refused for what is kept
abbrev pub IsPlanRefusal : List ℕ → Refusal → Type 0
IsPlanRefusal text refusal = (text_said text ≡ Err refusal) ⊎ ((read : WeekText) × (text_said text ≡ Ok read) × IsKeptRefusal read refusal)

-- what a command that is done tells
abbrev pub IsText : Command → List ℕ → Type 0
IsText (ask.Plan text limits) told = IsPlannedWeek limits text told
IsText (ask.Check text) told = check_said text ≡ Ok told
IsText (ask.Publish monday revision) told = (receipt : ℕ) × IsPublication monday receipt told
IsText (ask.Show monday) told = ⊤
IsText (ask.Export monday) told = ⊤

-- why a command is refused
abbrev pub IsRefusal : Command → Refusal → Type 0
IsRefusal (ask.Plan text limits) refusal = IsPlanRefusal text refusal
IsRefusal (ask.Check text) refusal = check_said text ≡ Err refusal
IsRefusal (ask.Publish monday revision) refusal = IsIssueRefusal monday revision refusal
IsRefusal (ask.Show monday) refusal = IsNoDraft monday refusal
IsRefusal (ask.Export monday) refusal = IsNoDraft monday refusal

-- a command that asks the keeper
abbrev pub AsksKeeper : Command → Type 0
AsksKeeper (ask.Plan text limits) = ⊤
AsksKeeper (ask.Check text) = ⊥
AsksKeeper (ask.Publish monday revision) = ⊤
AsksKeeper (ask.Show monday) = ⊤
AsksKeeper (ask.Export monday) = ⊤

-- a fact of a check alone
abbrev pub OnCheck : Command → Type 0 → Type 0
OnCheck (ask.Plan text limits) fact = ⊤
OnCheck (ask.Check text) fact = fact
OnCheck (ask.Publish monday revision) fact = ⊤
OnCheck (ask.Show monday) fact = ⊤
OnCheck (ask.Export monday) fact = ⊤

-- a reply to a command, over every keeper. A refusal is never want of memory
abbrev pub IsAnswer : Command → Reply → Type 0
IsAnswer command (Done told) = IsText command told
IsAnswer command (Refused refusal) = IsRefusal command refusal × HasCause refusal
IsAnswer command KeeperFault = AsksKeeper command
IsAnswer command Memory = ⊤
