-- Laws on the Lagrangian value: it is below the plans inside, it is a plan's cost where all is decided, and it never falls.
use Rattle.std.specs.Prelude.{◌≡◌, ℕ, ◌+◌, ◌<◌, ◌≤◌, ◌==◌, if◌then◌else◌, List, ◌∷◌, length, ℤ, pos, ◌+ℤ◌, Some, slice_get}
use Rattle.week_book.specs.declared.weeks.Week.{Week}
use Rattle.duty_plan.specs.declared.duties.Duty.{Duty}
use Rattle.duty_plan.specs.declared.plans.Case.{Case}
use Rattle.duty_plan.specs.declared.plans.Plan.{Plan}
use Rattle.duty_plan.specs.declared.deciding.Pair.TheVariants.{Free, Forced, Barred}
use Rattle.duty_plan.specs.declared.deciding.Pairs.{Pairs}
use Rattle.duty_plan.specs.declared.pricing.Prices.{Prices}
use Rattle.duty_plan.specs.declared.nodes.Decision.{Decision}
use Rattle.duty_plan.specs.declared.nodes.Decision.TheVariants.{Root, Forced as forces, Barred as bars}
use Rattle.duty_plan.specs.PartialDuties.{serves}
use Rattle.duty_plan.specs.Duties.{IsLawfulPlan, cost_after, cost_of_plan, partial_of, price_of, times, carried, EachOf}
use Rattle.duty_plan.specs.Values.{IsPrices, IsPlanInside, AreLeastValues, lagrangian, ArePairsOf, cost_of_all, decided_by, pair_at, IsDecided, IsLeast, reduced_cost}
use Rattle.duty_plan.specs.Sums.{total_below}
use Rattle.duty_plan.specs.Trees.{AreStartPrices, IsSingleDutyPlan}

-- the Lagrangian value is at most the cost of every lawful plan inside
abbrev pub IsBelowPlans : Type 0
IsBelowPlans = (case : Case) (pairs : Pairs) (prices : Prices) (least : List ℤ) (plan : Plan) →
    IsPrices case.week prices → AreLeastValues case pairs prices least → IsLawfulPlan case plan →
    IsPlanInside case.week pairs plan → lagrangian case.week pairs prices least ≤ cost_of_plan case plan

-- the decision is about a driver and an order that are Free on the path
abbrev pub DecidesFree : List Decision → Decision → Type 0
DecidesFree path Root = ⊥
DecidesFree path (forces driver order) = decided_by path driver order ≡ Free
DecidesFree path (bars driver order) = decided_by path driver order ≡ Free

-- the second pairs keep what the first decide: where the first say Forced or Barred, so do the second
pub record Tightens (week : Week) (node below : Pairs) : Type 0 where
  pub forced : (driver order : ℕ) → driver < length week.drivers → order < length week.orders → pair_at node driver order ≡ Forced →
      pair_at below driver order ≡ Forced
  pub barred : (driver order : ℕ) → driver < length week.drivers → order < length week.orders → pair_at node driver order ≡ Barred →
      pair_at below driver order ≡ Barred

-- a child keeps what its parent decides
abbrev pub ChildTightens : Type 0
ChildTightens = (case : Case) (path : List Decision) (decision : Decision) (node child : Pairs) → DecidesFree path decision →
    ArePairsOf case.week path node → ArePairsOf case.week (decision ∷ path) child → Tightens case.week node child

-- at the same prices, the Lagrangian value never falls from a node to any node that keeps what it decides
abbrev pub NeverFallsBelow : Type 0
NeverFallsBelow = (case : Case) (node below : Pairs) (prices : Prices) (least more : List ℤ) → Tightens case.week node below →
    IsPrices case.week prices → AreLeastValues case node prices least → AreLeastValues case below prices more →
    lagrangian case.week node prices least ≤ lagrangian case.week below prices more

-- at the same prices, the Lagrangian value never falls from a node to its child
abbrev pub NeverFalls : Type 0
NeverFalls = (case : Case) (path : List Decision) (decision : Decision) (node child : Pairs) (prices : Prices) (least more : List ℤ) →
    DecidesFree path decision → ArePairsOf case.week path node → ArePairsOf case.week (decision ∷ path) child →
    IsPrices case.week prices → AreLeastValues case node prices least → AreLeastValues case child prices more →
    lagrangian case.week node prices least ≤ lagrangian case.week child prices more

-- no order is Forced for two drivers
abbrev pub ForcesOnce : Week → Pairs → Type 0
ForcesOnce week pairs = (d e order : ℕ) → d < length week.drivers → e < length week.drivers → order < length week.orders →
    pair_at pairs d order ≡ Forced → pair_at pairs e order ≡ Forced → d ≡ e

-- the plan of least duties: each driver has one of the driver's least value, and an order that none of them serves is
-- given away, once
pub record IsLeastPlan (case : Case) (pairs : Pairs) (prices : Prices) (least : List ℤ) (plan : Plan) : Type 0 where
  pub duties : length plan.duties ≡ length case.week.drivers
  pub values : length least ≡ length case.week.drivers
  pub each : (driver : ℕ) (value : ℤ) (duty : Duty) → slice_get least driver ≡ Some value → slice_get plan.duties driver ≡ Some duty →
      IsLeast case driver pairs prices value duty
  pub rest : (order : ℕ) → order < length case.week.orders →
      times order plan.out ≡ (if times order (carried plan.duties) == 0 then 1 else 0)
  pub known : EachOf (λ n order. order < length case.week.orders) plan.out

-- at decided pairs that force no order for two drivers, the plan of least duties is lawful, and the Lagrangian value is
-- its cost
abbrev pub IsExactWhenDecided : Type 0
IsExactWhenDecided = (case : Case) (pairs : Pairs) (prices : Prices) (least : List ℤ) (plan : Plan) →
    IsDecided case.week pairs → ForcesOnce case.week pairs → IsLeastPlan case pairs prices least plan →
    IsLawfulPlan case plan × (lagrangian case.week pairs prices least ≡ cost_of_plan case plan)

-- what a plan of one duty is to cost: the duty, and what subcontractors take for the orders that it doesn't serve
abbrev pub lone_cost : Case → ℕ → Duty → ℕ
lone_cost case driver duty =
    cost_after case driver (partial_of duty) +
    total_below (λ order. if serves order (partial_of duty) then 0 else price_of case.week order) (length case.week.orders)

-- a plan of one duty costs just that
abbrev pub CostsAlone : Type 0
CostsAlone = (case : Case) (driver : ℕ) (duty : Duty) (plan : Plan) → IsSingleDutyPlan case driver duty plan →
    cost_of_plan case plan ≡ lone_cost case driver duty

-- at the start prices a plan of one duty costs what it costs to give all orders away, and the duty's value
abbrev pub CostsAtStart : Type 0
CostsAtStart = (case : Case) (driver : ℕ) (prices : Prices) (duty : Duty) (plan : Plan) → AreStartPrices case.week prices →
    IsSingleDutyPlan case driver duty plan →
    pos (cost_of_plan case plan) ≡ (pos (cost_of_all case.week) +ℤ reduced_cost case driver prices (partial_of duty))
