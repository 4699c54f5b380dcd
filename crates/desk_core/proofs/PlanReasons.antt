-- A planned week, and why none is planned, over every keeper.
use Rattle.std.proofs.Common.{◌≡◌, ◌≤◌, ℕ, inl, inr, sym, subst, List, map, Option, Result, Ok, Err, IfOk}
use Rattle.minute_line.specs.Histories.{Fields, fields_of}
use Rattle.week_book.specs.declared.weeks.Driver.{Driver}
use Rattle.duty_plan.specs.declared.plans.Case.{Case}
use Rattle.duty_plan.specs.declared.outcomes.Limits.{Limits}
use Rattle.duty_plan.specs.declared.outcomes.Outcome.{Outcome}
use Rattle.duty_plan.specs.Duties.{IsCase}
use Rattle.duty_plan.specs.Trees.{IsRight}
use Rattle.desk_keeper.specs.declared.records.TheConstants.{DRAFT_LIMIT}
use Rattle.desk_keeper.specs.Tables.{KeptFields, DraftFields}
use Rattle.desk_report.specs.Reports.{IsReportOf}
use Rattle.desk_core.specs.declared.refusals.Stop.{Stop}
use Rattle.desk_core.specs.declared.refusals.Stop.TheVariants.{Refused, Fault, Memory}
use Rattle.desk_core.specs.Refusing.{Meets}
use Rattle.desk_core.specs.WeekTexts.{week_text}
use Rattle.desk_core.specs.Causes.{StopsFor, IsWeekRefusal, IsDriverRefusal}
use Rattle.desk_core.specs.Drafting.{WeekText, text_said, IsDraftAfter}
use Rattle.desk_core.specs.Answering.{HoldsTheTexts, IsPlannedWeek, IsPlanRefusal}
use Rattle.desk_core.proofs.Reasons.{stops_more}

-- the text's own refusal
pub text_refuses : (text : List ℕ) (stop : Stop) → Meets week_text (Err stop) (text_said text) → StopsFor (IsPlanRefusal text) stop
text_refuses text (Refused refusal) said = inl said
text_refuses text Fault said = absurd said
text_refuses text Memory said = tt

-- a refusal of the week, for what is kept
pub week_refuses : (text : List ℕ) (read : WeekText) (stop : Stop) → text_said text ≡ Ok read → StopsFor (IsWeekRefusal read.week.monday) stop → StopsFor (IsPlanRefusal text) stop
week_refuses text read stop accepted stops =
    stops_more (IsWeekRefusal read.week.monday) (IsPlanRefusal text) stop (λ refusal why. inr (read, accepted, inl why)) stops

-- a refusal of a driver, for what is kept
pub driver_refuses_week : (text : List ℕ) (read : WeekText) (drivers : List Driver) (pasts : List (Option Fields)) (stop : Stop) → text_said text ≡ Ok read → drivers ≡ read.week.drivers
    → pasts ≡ read.past → StopsFor (IsDriverRefusal read.week.monday drivers pasts) stop → StopsFor (IsPlanRefusal text) stop
driver_refuses_week text read drivers pasts stop accepted of_week of_text stops =
    stops_more (IsDriverRefusal read.week.monday drivers pasts) (IsPlanRefusal text) stop
    (λ refusal why.
    let theirs = subst (λ (d : List Driver). IsDriverRefusal read.week.monday d pasts refusal) of_week why in
    inr (read, accepted, inr (subst (λ (p : List (Option Fields)). IsDriverRefusal read.week.monday read.week.drivers p refusal) of_text theirs)))
    stops

-- the report of the draft that is kept is that of the text's week
pub is_planned_week : (limits : Limits) (text : List ℕ) (read : WeekText) (case : Case) (outcome : Outcome) (revision : ℕ) (draft : DraftFields) (seen : List (Option KeptFields))
    (pasts : List (Option Fields)) (result : Result (List ℕ) Stop) → text_said text ≡ Ok read → case.week ≡ read.week → IsCase case → IsRight case limits outcome → pasts ≡ read.past
    → HoldsTheTexts pasts (map fields_of case.past) → (1 ≤ revision) × (revision ≤ DRAFT_LIMIT) → IsDraftAfter case outcome seen revision draft
    → IfOk result (λ told. told ≡ draft.report) → IfOk result (IsPlannedWeek limits text)
is_planned_week limits text read case outcome revision draft seen pasts (Ok told) accepted week valid right of_text own range made same = record {
  read = read;
  accepted = accepted;
  case = case;
  valid = valid;
  week = week;
  past = subst (λ (p : List (Option Fields)). HoldsTheTexts p (map fields_of case.past)) of_text own;
  outcome = outcome;
  right = right;
  revision = revision;
  range = range;
  reported = subst (IsReportOf case outcome revision) (sym same) made.report;
}
is_planned_week limits text read case outcome revision draft seen pasts (Err stop) accepted week valid right of_text own range made same = tt
