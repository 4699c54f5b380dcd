-- What a judge keeps of the steps behind it. The contracts of private functions cite this; no public clause does.
use Rattle.std.specs.Prelude.{◌≡◌, ℕ, Option, Some, None, Result, Ok, Err, MatchResult, ◌∷◌, length, ◌*◌, ◌≤◌, List}
use Rattle.minute_line.specs.declared.lines.History.{History}
use Rattle.hours_rules.specs.declared.clocks.Clock.{Clock}
use Rattle.hours_rules.specs.declared.rules.Broken.{Broken}
use Rattle.hours_rules.specs.Going.{StandsOrBreaks}
use Rattle.hours_rules.specs.Verdicts.{past_of}
use Rattle.week_book.specs.declared.weeks.Driver.{Driver}
use Rattle.week_book.specs.declared.weeks.Week.{Week}
use Rattle.duty_plan.specs.declared.duties.Duty.{Duty}
use Rattle.duty_plan.specs.declared.duties.Step.{Step}
use Rattle.duty_plan.specs.declared.plans.Case.{Case}
use Rattle.duty_plan.specs.declared.faults.PlanFault.{PlanFault}
use Rattle.duty_plan.specs.declared.faults.DutyFault.{DutyFault}
use Rattle.duty_plan.specs.declared.duty_checks.DutyCheck.{DutyCheck}
use Rattle.duty_plan.specs.PartialDuties.{PartialDuty, line_after, KeepsOfficeThrough}
use Rattle.duty_plan.specs.Duties.{cents_after, cost_of_duties, duty_cost_limit, partial_of, orders_of, times}
use Rattle.duty_plan.specs.Verdicts.{first_failed, tests_of_step, duties_fault}
use Rattle.duty_plan.specs.Positions.{position_of}

-- the walk stands for a partial duty of a driver, which keeps the office rules
pub record StandsFor (week : Week) (driver : Driver) (history : History) (partial : PartialDuty) (check : DutyCheck) : Type 0 where
  pub office : KeepsOfficeThrough week history.open_off driver.capacity partial
  pub steps : check.steps ≡ length partial
  pub position : check.position ≡ position_of week partial
  pub cents : check.cents ≡ cents_after week partial
  pub hours : StandsOrBreaks 0 (past_of history) (line_after week partial) check.hours

-- the walk stands for some partial duty
pub record StandsForSome (week : Week) (driver : Driver) (history : History) (check : DutyCheck) : Type 0 where
  pub partial : PartialDuty
  pub stands : StandsFor week driver history partial check

-- the answer is a walk for the partial duty with the step, or the first office test that the step fails
abbrev pub TakesStep : Week → Driver → History → PartialDuty → Step → Result DutyCheck DutyFault → Type 0
TakesStep week driver history before step answer =
    MatchResult answer (λ check. StandsFor week driver history (step ∷ before) check)
    (λ fault. first_failed (tests_of_step week history.open_off driver.capacity step before) ≡ Some fault)

-- the duty serves no order more than once
abbrev pub ServesOnce : ℕ → Duty → Type 0
ServesOnce driver duty = (order : ℕ) → times order (orders_of (partial_of duty)) ≤ 1

-- the answer is the cost of some duties, the first driver's first, or the first fault of one that isn't lawful
abbrev pub AnswersDuties : Case → List Duty → Result ℕ PlanFault → Type 0
AnswersDuties case duties answer =
    MatchResult answer (λ cents. (duties_fault case 0 duties ≡ None) × (cents ≡ cost_of_duties case 0 duties) × (cents ≤ length duties * duty_cost_limit))
    (λ fault. duties_fault case 0 duties ≡ Some fault)

-- the fault of the hours rules, where there is one
abbrev pub broken_of : Result Clock Broken → Option Broken
broken_of (Ok clock) = None
broken_of (Err broken) = Some broken
