-- What a step brings to a lawful partial duty of a driver.
use Rattle.std.proofs.Common.{◌≡◌, ℕ, ◌<◌, ◌∷◌, length, get_or, Option, Some, None, option_map, slice_get, refl, ap, sym}
use Rattle.std.proofs.lemmas.Option.{slice_get_read}
use Rattle.minute_line.specs.declared.lines.History.{History}
use Rattle.hours_rules.specs.declared.rules.Broken.{Broken}
use Rattle.hours_rules.specs.Rules.{fault}
use Rattle.hours_rules.specs.Verdicts.{past_of}
use Rattle.week_book.specs.declared.weeks.Driver.{Driver}
use Rattle.week_book.specs.Weeks.{driver_of}
use Rattle.duty_plan.specs.declared.duties.Step.{Step}
use Rattle.duty_plan.specs.declared.faults.DutyFault.{DutyFault}
use Rattle.duty_plan.specs.declared.faults.DutyFault.TheVariants.{Rule}
use Rattle.duty_plan.specs.declared.plans.Case.{Case}
use Rattle.duty_plan.specs.PartialDuties.{PartialDuty, line_after, KeepsOffice}
use Rattle.duty_plan.specs.Duties.{IsCase, IsLawfulPartialDuty, past_at, past_or_none, open_off_at, open_or_none}
use Rattle.duty_plan.specs.Duties.{capacity_at, capacity_or_none}
use Rattle.duty_plan.specs.Verdicts.{first_failed, numbered, tests_of_step, earlier_or}
use Rattle.duty_plan.proofs.Keeping.{keeps-passed, passed-keeps}
use Rattle.duty_label.specs.Children.{fault_of_step}

-- the number names this driver, with this history
pub record Names (case : Case) (driver : ℕ) (lorry : Driver) (history : History) : Type 0 where
  pub lorry_is : driver_of case.week driver ≡ Some lorry
  pub history_is : slice_get case.past driver ≡ Some history

pub names : (case : Case) (driver : ℕ) (lorry : Driver) (history : History) → IsCase case → driver < length case.week.drivers →
    lorry ≡ get_or case.week.drivers driver lorry → history ≡ get_or case.past driver history → Names case driver lorry history
names case driver lorry history c l a b = record {
  lorry_is = slice_get_read case.week.drivers (length case.week.drivers) driver lorry refl l a;
  history_is = slice_get_read case.past (length case.week.drivers) driver history (sym c.drivers) l b;
}

-- the fault of a step that the office takes is the hours rules'
pub fault-hours : (case : Case) (driver : ℕ) (lorry : Driver) (history : History) (before : PartialDuty) (step : Step) (found : Option Broken) →
    Names case driver lorry history → KeepsOffice case.week history.open_off lorry.capacity step before →
    fault (past_of history) (line_after case.week (step ∷ before)) ≡ found →
    fault_of_step case driver before step ≡ option_map (λ broken. Rule broken) found
fault-hours case driver lorry history before step found n k f =
    let open_off : open_off_at case driver ≡ history.open_off = ap open_or_none n.history_is in
    let capacity : capacity_at case driver ≡ lorry.capacity = ap capacity_or_none n.lorry_is in
    let past : past_at case driver ≡ past_of history = ap past_or_none n.history_is in
    let office : first_failed (tests_of_step case.week history.open_off lorry.capacity step before) ≡ None =
    passed-keeps case.week history.open_off lorry.capacity step before k in
    rw (open_off, capacity, past, office, f) refl

no-number : (found : Option DutyFault) → option_map (numbered 0) found ≡ None → found ≡ None
no-number None h = refl
no-number (Some f) h = cc

no-rule : (found : Option Broken) → option_map (λ broken. Rule broken) found ≡ None → found ≡ None
no-rule None h = refl
no-rule (Some b) h = cc

neither : (found later : Option DutyFault) → earlier_or found later ≡ None → (found ≡ None) × (later ≡ None)
neither None later h = (refl, h)
neither (Some f) later h = cc

-- a step that brings no fault makes a lawful partial duty of one
pub lawful-longer : (case : Case) (driver : ℕ) (before : PartialDuty) (step : Step) → IsLawfulPartialDuty case driver before →
    fault_of_step case driver before step ≡ None → IsLawfulPartialDuty case driver (step ∷ before)
lawful-longer case driver before step l h =
    let parts = neither _ (option_map (λ broken. Rule broken) (fault (past_at case driver) (line_after case.week (step ∷ before)))) h in
    record {
      office = (
        keeps-passed case.week (open_off_at case driver) (capacity_at case driver) step before (no-number _ parts.0),
        l.office,
      );
      hours = no-rule _ parts.1;
    }
