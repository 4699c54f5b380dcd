-- What the judges of a duty and of a plan find.
use Rattle.std.specs.Prelude.{ℕ, zero, suc, ◌+◌, Bool, true, false, ◌==◌, nat_le, if◌then◌else◌, List, [], ◌∷◌, length, Option, Some, None, Result, Ok, Err}
use Rattle.hours_rules.specs.declared.rules.Broken.{Broken}
use Rattle.hours_rules.specs.Rules.{fault}
use Rattle.week_book.specs.declared.weeks.Week.{Week}
use Rattle.duty_plan.specs.declared.duties.Step.{Step}
use Rattle.duty_plan.specs.declared.duties.Duty.{Duty}
use Rattle.duty_plan.specs.declared.plans.Case.{Case}
use Rattle.duty_plan.specs.declared.faults.DutyFault.{DutyFault}
use Rattle.duty_plan.specs.declared.faults.DutyFault.TheVariants.{Road, Stay, Away, Grid, Late, Window, Load, Twice, NotHome, Rule}
use Rattle.duty_plan.specs.declared.faults.PlanFault.{PlanFault}
use Rattle.duty_plan.specs.declared.plans.Plan.{Plan}
use Rattle.duty_plan.specs.declared.faults.PlanFault.TheVariants.{Duties, Duty as duty_fails, Twice as in_two_places, Lost}
use Rattle.duty_plan.specs.PartialDuties.{PartialDuty, follows_road, has_lawful_length, rests_home, keeps_grid, ends_in_week, is_in_window, keeps_capacity, serves_anew, place_after, line_after}
use Rattle.duty_plan.specs.Duties.{partial_of, past_at, open_off_at, capacity_at, cost_after, cost_of_plan, times_placed}

-- a test, and what its failing says
pub record Test : Type 0 where
  pub passes : Bool
  pub fault : DutyFault

-- the fault of the first test that fails
abbrev pub first_failed : List Test → Option DutyFault
first_failed [] = None
first_failed (test ∷ rest) = if test.passes then first_failed rest else Some test.fault

-- the tests of a step, in the order in which they are tried
abbrev pub tests_of_step : Week → ℕ → ℕ → Step → PartialDuty → List Test
tests_of_step week open_off capacity step before =
    record { passes = follows_road week step before; fault = Road (length before) }
    ∷ record { passes = has_lawful_length open_off step before; fault = Stay (length before) }
    ∷ record { passes = rests_home step before; fault = Away (length before) }
    ∷ record { passes = keeps_grid week step before; fault = Grid (length before) }
    ∷ record { passes = ends_in_week week step before; fault = Late (length before) }
    ∷ record { passes = is_in_window week step before; fault = Window (length before) }
    ∷ record { passes = keeps_capacity week capacity step before; fault = Load (length before) }
    ∷ record { passes = serves_anew step before; fault = Twice (length before) }
    ∷ []

-- the fault, told of the step of that number
abbrev pub numbered : ℕ → DutyFault → DutyFault
numbered number (Road step) = Road number
numbered number (Stay step) = Stay number
numbered number (Away step) = Away number
numbered number (Grid step) = Grid number
numbered number (Late step) = Late number
numbered number (Window step) = Window number
numbered number (Load step) = Load number
numbered number (Twice step) = Twice number
numbered number NotHome = NotHome
numbered number (Rule broken) = Rule broken

-- what is there already, or else what comes later
abbrev pub earlier_or : Option DutyFault → Option DutyFault → Option DutyFault
earlier_or (Some found) later = Some found
earlier_or None later = later

-- the first step of a partial duty that fails a test, by the first test that it fails
abbrev pub office_fault : Week → ℕ → ℕ → PartialDuty → Option DutyFault
office_fault week open_off capacity [] = None
office_fault week open_off capacity (step ∷ before) =
    earlier_or (office_fault week open_off capacity before) (first_failed (tests_of_step week open_off capacity step before))

-- the office's fault, then the way home, then the first hours rule that fails, then the cost
abbrev pub verdict_after : Option DutyFault → Bool → Option Broken → ℕ → Result ℕ DutyFault
verdict_after (Some found) home broken cost = Err found
verdict_after None false broken cost = Err NotHome
verdict_after None true (Some broken) cost = Err (Rule broken)
verdict_after None true None cost = Ok cost

-- what the judge of a duty finds: its cost, or its first fault
abbrev pub duty_verdict : Case → ℕ → Duty → Result ℕ DutyFault
duty_verdict case driver duty =
    verdict_after (office_fault case.week (open_off_at case driver) (capacity_at case driver) (partial_of duty))
    (place_after (partial_of duty) == 0) (fault (past_at case driver) (line_after case.week (partial_of duty)))
    (cost_after case driver (partial_of duty))

-- a driver's verdict, and what comes later where it is a cost
abbrev pub after_verdict : ℕ → Result ℕ DutyFault → Option PlanFault → Option PlanFault
after_verdict driver (Ok cost) later = later
after_verdict driver (Err found) later = Some (duty_fails driver found)

-- the fault of the first of some duties that isn't lawful, where the first is that driver's
abbrev pub duties_fault : Case → ℕ → List Duty → Option PlanFault
duties_fault case driver [] = None
duties_fault case driver (duty ∷ rest) =
    after_verdict driver (duty_verdict case driver duty) (duties_fault case (driver + 1) rest)

-- the least number below n that passes a test
abbrev pub least_below : (ℕ → Bool) → ℕ → Option ℕ
least_below test zero = None
least_below test (suc n) = elim (least_below test n) [
  | Some order ↦ Some order
  | None ↦ if test n then Some n else None
]

-- the duties' fault, then the first order in two places, then the first in none, then the cost
abbrev pub plan_answer : Option PlanFault → Option ℕ → Option ℕ → ℕ → Result ℕ PlanFault
plan_answer (Some found) twice lost cost = Err found
plan_answer None (Some order) lost cost = Err (in_two_places order)
plan_answer None None (Some order) cost = Err (Lost order)
plan_answer None None None cost = Ok cost

-- the least order in two places or more
abbrev pub first_twice : Week → Plan → Option ℕ
first_twice week plan = least_below (λ order. nat_le 2 (times_placed plan order)) (length week.orders)

-- the least order in no place
abbrev pub first_lost : Week → Plan → Option ℕ
first_lost week plan = least_below (λ order. times_placed plan order == 0) (length week.orders)

-- what the judge of a plan finds: its cost, or its first fault
abbrev pub plan_verdict : Case → Plan → Result ℕ PlanFault
plan_verdict case plan =
    if length plan.duties == length case.week.drivers
    then plan_answer (duties_fault case 0 plan.duties) (first_twice case.week plan) (first_lost case.week plan) (cost_of_plan case plan)
    else Err (Duties (length plan.duties))
