-- Laws over duties and plans, in the words of the subject.
use Rattle.std.specs.Prelude.{◌≡◌, ◌⊎◌, ℕ, ◌≤◌, ◌<◌, true, ◌∷◌, ◌++◌, length, Some, slice_get}
use Rattle.minute_line.specs.declared.marks.Mark.TheVariants.{Off}
use Rattle.minute_line.specs.declared.marks.Kind.TheVariants.{Plain}
use Rattle.minute_line.specs.Minutes.{stretch, reached_by}
use Rattle.hours_rules.specs.Rules.{Past, fault}
use Rattle.week_book.specs.declared.weeks.Week.{Week}
use Rattle.week_book.specs.Weeks.{order_of}
use Rattle.duty_plan.specs.declared.duties.Act.TheVariants.{Serve}
use Rattle.duty_plan.specs.declared.duties.Duty.{Duty}
use Rattle.duty_plan.specs.declared.duties.Step.{Step}
use Rattle.duty_plan.specs.declared.plans.Case.{Case}
use Rattle.duty_plan.specs.declared.plans.Plan.{Plan}
use Rattle.duty_plan.specs.Acts.{is_open}
use Rattle.duty_plan.specs.PartialDuties.{PartialDuty, line_after, start_of, used_after}
use Rattle.duty_plan.specs.Duties.{IsLawfulPlan, partial_of, carried, times, capacity_at}
use Rattle.duty_plan.specs.Stints.{stints_of}

-- the stints of a partial duty have the minutes of its line
abbrev pub HasItsMinutes : Type 0
HasItsMinutes = (week : Week) (partial : PartialDuty) → (reached_by (stints_of week partial)).minutes ≡ line_after week partial

-- the Off minutes that fill the week after a partial duty break no rule and mend none
abbrev pub IsRestFree : Type 0
IsRestFree = (past : Past) (week : Week) (partial : PartialDuty) (n : ℕ) →
    fault past (stretch n Off Plain (line_after week partial)) ≡ fault past (line_after week partial)

-- a step of a driver's duty serves the order, and starts inside the order's window
pub record IsServed (case : Case) (plan : Plan) (order : ℕ) : Type 0 where
  pub driver : ℕ
  pub duty : Duty
  pub later : PartialDuty
  pub step : Step
  pub before : PartialDuty
  pub of_driver : slice_get plan.duties driver ≡ Some duty
  pub of_duty : partial_of duty ≡ later ++ (step ∷ before)
  pub serves : step.act ≡ Serve order
  pub inside : is_open (order_of case.week order) (start_of case.week step before) ≡ true

-- in a lawful plan each order is served just once, from inside its window, and not given away, or is given away just
-- once and not served
abbrev pub HasEachOrderOnce : Type 0
HasEachOrderOnce = (case : Case) (plan : Plan) → IsLawfulPlan case plan → (order : ℕ) → order < length case.week.orders →
    (IsServed case plan order × (times order (carried plan.duties) ≡ 1) × (times order plan.out ≡ 0))
    ⊎ ((times order (carried plan.duties) ≡ 0) × (times order plan.out ≡ 1))

-- in a lawful plan no lorry carries more than its capacity at any step since its last load
abbrev pub IsNeverOverloaded : Type 0
IsNeverOverloaded = (case : Case) (plan : Plan) → IsLawfulPlan case plan → (driver : ℕ) (duty : Duty) (later before : PartialDuty) →
    slice_get plan.duties driver ≡ Some duty → partial_of duty ≡ later ++ before → used_after case.week before ≤ capacity_at case driver
