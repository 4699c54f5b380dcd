-- The duties that are kept for each driver, and the plans that they make.
use Rattle.std.specs.Prelude.{◌≡◌, ◌⊎◌, ℕ, zero, suc, ◌+◌, ◌-◌, ◌≤◌, Bool, ◌==◌, if◌then◌else◌, List, [], ◌∷◌, ◌++◌, length, drop, set, Some, slice_get, bit_and, bit_or}
use Rattle.std.specs.List.{sum_by}
use Rattle.duty_plan.specs.declared.duties.Duty.{Duty}
use Rattle.duty_plan.specs.declared.plans.Case.{Case}
use Rattle.duty_plan.specs.declared.plans.Plan.{Plan}
use Rattle.duty_plan.specs.Duties.{IsLawful, IsLawfulPlan, cost_after, cost_of_plan, partial_of, EachOf}
use Rattle.duty_plan.specs.Labels.{served_after}
use Rattle.duty_plan.specs.Sums.{total_below}
use Rattle.duty_plan.specs.Trees.{BeatsDuty}
use Rattle.duty_plan.specs.Values.{cost_of_all}
use Rattle.price_master.specs.declared.pooling.Pooled.{Pooled}
use Rattle.price_master.specs.declared.picking.Picked.{Picked}
use Rattle.price_master.specs.declared.picking.Picked.TheVariants.{Least, Cut}

-- a duty is among these
abbrev pub IsAmong : List Pooled → Duty → Type 0
IsAmong pooled duty = (n : ℕ) × (entry : Pooled) × (slice_get pooled n ≡ Some entry) × (entry.duty ≡ duty)

-- a duty of a pool: lawful for the driver, with its cost
pub record IsEntry (case : Case) (driver : ℕ) (entry : Pooled) : Type 0 where
  pub lawful : IsLawful case driver entry.duty
  pub costs : entry.cost ≡ cost_after case driver (partial_of entry.duty)

-- a pool of the case: for each driver at most 64 lawful duties with their costs, the oldest first
pub record IsPool (case : Case) (pool : List (List Pooled)) : Type 0 where
  pub drivers : length pool ≡ length case.week.drivers
  pub few : EachOf (λ driver pooled. length pooled ≤ 64) pool
  pub entries : EachOf (λ driver pooled. EachOf (λ n entry. IsEntry case driver entry) pooled) pool

-- the newest 64 of a driver's duties
abbrev pub newest : List Pooled → List Pooled
newest pooled = drop (length pooled - 64) pooled

-- what a driver's duties come to with one more: they stay where it is among them, else it is the newest
abbrev pub AddsDuty : Pooled → List Pooled → List Pooled → Type 0
AddsDuty entry old new = (IsAmong old entry.duty × (new ≡ old)) ⊎ ((IsAmong old entry.duty → ⊥) × (new ≡ newest (old ++ entry ∷ [])))

-- the pool has one duty more for one driver, and is the same for the others
pub record AddsTo (driver : ℕ) (entry : Pooled) (old new : List (List Pooled)) : Type 0 where
  pub pooled : List Pooled
  pub adds : (before : List Pooled) → slice_get old driver ≡ Some before → AddsDuty entry before pooled
  pub others : new ≡ set old driver pooled

-- the pool has the duty for the driver
abbrev pub IsPooled : List (List Pooled) → ℕ → Duty → Type 0
IsPooled pool driver duty = (pooled : List Pooled) × (slice_get pool driver ≡ Some pooled) × IsAmong pooled duty

-- a plan that gives each driver a duty of the pool or the empty one, serves no order twice and gives the rest away
pub record IsPooledPlan (case : Case) (pool : List (List Pooled)) (plan : Plan) : Type 0 where
  pub lawful : IsLawfulPlan case plan
  pub pooled : EachOf (λ driver duty. (duty.steps ≡ []) ⊎ IsPooled pool driver duty) plan.duties

-- a pooled plan of least cost
pub record IsLeastPooled (case : Case) (pool : List (List Pooled)) (plan : Plan) (cost : ℕ) : Type 0 where
  pub pooled : IsPooledPlan case pool plan
  pub costs : cost_of_plan case plan ≡ cost
  pub least : (other : Plan) → IsPooledPlan case pool other → cost ≤ cost_of_plan case other

-- the orders that a duty serves, as the bits of one number
abbrev pub orders_in : Duty → ℕ
orders_in duty = served_after (partial_of duty)

-- no order is in both
abbrev pub are_apart : ℕ → ℕ → Bool
are_apart one other = bit_and one other == 0

-- in how many ways the first n drivers can each be given a pooled duty or the empty one, where no order is served twice,
-- nor one that is served already
abbrev pub ways : List (List Pooled) → ℕ → ℕ → ℕ
ways pool zero served = 1
ways [] (suc n) served = 0
ways (pooled ∷ rest) (suc n) served =
    ways rest n served +
    sum_by (λ entry. if are_apart served (orders_in entry.duty) then ways rest n (bit_or served (orders_in entry.duty)) else 0) pooled

-- these ways for the first driver, for the first two, and so on to all drivers, together
abbrev pub ways_of_all : List (List Pooled) → ℕ
ways_of_all pool = total_below (λ n. ways pool (suc n) 0) (length pool)

-- a pooled plan that costs no more than giving all away, nor than any plan of one pooled duty, after 20,000 turns
pub record IsCutPlan (case : Case) (pool : List (List Pooled)) (plan : Plan) (cost : ℕ) : Type 0 where
  pub pooled : IsPooledPlan case pool plan
  pub costs : cost_of_plan case plan ≡ cost
  pub cheap : cost ≤ cost_of_all case.week
  pub beats : (driver : ℕ) (duty : Duty) → IsPooled pool driver duty → BeatsDuty case cost driver duty
  pub long : 20000 ≤ ways_of_all pool

-- what is picked from a pool
abbrev pub IsPicked : Case → List (List Pooled) → Picked → Type 0
IsPicked case pool (Least plan cost) = IsLeastPooled case pool plan cost
IsPicked case pool (Cut plan cost) = IsCutPlan case pool plan cost
