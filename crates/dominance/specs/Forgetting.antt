-- A partial duty that another betters may be forgotten: what it could still become, the other becomes with listed stays, inside the
-- same pairs and at no larger value.
use Rattle.std.specs.Prelude.{◌≡◌, ℕ, true, ◌++◌, length, ◌≤ℤ◌}
use Rattle.duty_plan.specs.declared.plans.Case.{Case}
use Rattle.duty_plan.specs.declared.deciding.Pairs.{Pairs}
use Rattle.duty_plan.specs.declared.pricing.Prices.{Prices}
use Rattle.duty_plan.specs.declared.labels.Label.{Label}
use Rattle.duty_plan.specs.PartialDuties.{PartialDuty}
use Rattle.duty_plan.specs.Duties.{IsCase, IsLawfulPartialDuty}
use Rattle.duty_plan.specs.Values.{IsInside, reduced_cost}
use Rattle.duty_plan.specs.Labels.{IsLabelOf, Dominates, forced_orders}
use Rattle.dominance.specs.Completions.{AllListedAfter, IsCompletion, IsShifted}
use Rattle.dominance.specs.Reaching.{DominatesWithin, IsReachInside, ServesNoBarred}

-- what listed steps keep: the value at all prices, and to be inside at all pairs
pub record KeepsValue (case : Case) (driver : ℕ) (partial more listed : PartialDuty) : Type 0 where
  pub value : (prices : Prices) → reduced_cost case driver prices (listed ++ partial) ≡ reduced_cost case driver prices (more ++ partial)
  pub inside : (pairs : Pairs) → IsInside case.week pairs driver (more ++ partial) → IsInside case.week pairs driver (listed ++ partial)

-- steps with listed stays that do what other steps do keep that of them
abbrev pub ShiftKeepsValue : Type 0
ShiftKeepsValue = (case : Case) (driver : ℕ) (partial more listed : PartialDuty) → IsShifted case driver partial more listed →
    KeepsValue case driver partial more listed

-- another partial duty has a completion inside, with listed stays and of as many steps, whose value is at most that of a partial duty
-- with `more`
pub record KeepsValueInside (case : Case) (driver : ℕ) (pairs : Pairs) (prices : Prices) (partial more other : PartialDuty) : Type 0 where
  pub later : PartialDuty
  pub listed : AllListedAfter case.week other later
  pub completes : IsCompletion case driver other later
  pub steps : length later ≡ length more
  pub inside : IsInside case.week pairs driver (later ++ other)
  pub value : reduced_cost case driver prices (later ++ other) ≤ℤ reduced_cost case driver prices (more ++ partial)

-- where one label betters another of the same driver, both after an act, each completion inside of the worse one's partial duty gives
-- such a completion of the better one's
abbrev pub MayForget : Type 0
MayForget = (case : Case) (driver : ℕ) (pairs : Pairs) (prices : Prices) (a b : Label) (better worse more : PartialDuty) →
    IsCase case → IsLawfulPartialDuty case driver better → IsLawfulPartialDuty case driver worse →
    IsLabelOf case driver prices a better → IsLabelOf case driver prices b worse → a.fee_paid ≡ true → b.fee_paid ≡ true →
    Dominates a b (forced_orders case.week pairs driver) → IsCompletion case driver worse more →
    IsInside case.week pairs driver (more ++ worse) → KeepsValueInside case driver pairs prices worse more better

-- so it is where the label betters within what completions inside of the worse one's partial duty may serve, and the better one's
-- serves no Barred order
abbrev pub MayForgetWithin : Type 0
MayForgetWithin = (case : Case) (driver : ℕ) (pairs : Pairs) (prices : Prices) (reach : ℕ) (a b : Label) (better worse more : PartialDuty) →
    IsCase case → IsLawfulPartialDuty case driver better → IsLawfulPartialDuty case driver worse →
    IsLabelOf case driver prices a better → IsLabelOf case driver prices b worse → a.fee_paid ≡ true → b.fee_paid ≡ true →
    ServesNoBarred case.week pairs driver better → IsReachInside case driver pairs worse reach →
    DominatesWithin a b (forced_orders case.week pairs driver) reach → IsCompletion case driver worse more →
    IsInside case.week pairs driver (more ++ worse) → KeepsValueInside case driver pairs prices worse more better
