-- Dominance where orders out of reach are ignored: what may be served after a partial duty, and what becomes of it after a
-- partial duty that betters it but for orders that can't be served any more.
use Rattle.std.specs.Prelude.{bit_and, ◌≡◌, ℕ, ◌+◌, ◌-◌, ◌<◌, ◌≤◌, true, false, nat_le, List, [], ◌++◌, length, ◌≤ℤ◌, ◌<ℤ◌, ◌≢◌, Some, slice_get}
use Rattle.std.specs.Int.{bit_at}
use Rattle.hours_rules.specs.Order.{ClockDominates}
use Rattle.week_book.specs.declared.weeks.Week.{Week}
use Rattle.week_book.specs.Weeks.{order_of}
use Rattle.duty_plan.specs.declared.plans.Case.{Case}
use Rattle.duty_plan.specs.declared.deciding.Pair.TheVariants.{Barred, Forced}
use Rattle.duty_plan.specs.declared.deciding.Pairs.{Pairs}
use Rattle.duty_plan.specs.declared.pricing.Prices.{Prices}
use Rattle.duty_plan.specs.declared.labels.Label.{Label}
use Rattle.duty_plan.specs.PartialDuties.{PartialDuty, place_after, at_after, serves}
use Rattle.duty_plan.specs.Duties.{EachOf, IsCase, IsLawfulPartialDuty, cost_after, orders_of}
use Rattle.duty_plan.specs.Values.{pair_at, IsInside, reduced_cost}
use Rattle.duty_plan.specs.Labels.{IsLabelOf, Dominates, bits_below, closes_of, forced_orders}
use Rattle.duty_plan.specs.LabelLists.{Entry, IsEntry, IsExtended, IsLabelList, completion_bound}
use Rattle.duty_label.specs.Walks.{AreLeastMinutes, reached_from}
use Rattle.dominance.specs.Completions.{IsCompletion, acts_of, delayed}

-- steps serve only orders of a set, given as bits: order n is the bit n
abbrev pub ServesWithin : ℕ → PartialDuty → Type 0
ServesWithin reach more = (order : ℕ) → serves order more ≡ true → bit_at reach order ≡ 1

-- a set of orders is an upper bound of what may be served after a partial duty: each order that a completion of the partial duty serves
-- is in it
abbrev pub IsReach : Case → ℕ → PartialDuty → ℕ → Type 0
IsReach case driver partial reach = (more : PartialDuty) → IsCompletion case driver partial more → ServesWithin reach more

-- the same of the completions that serve each order Forced for the driver and none that is Barred
abbrev pub IsReachInside : Case → ℕ → Pairs → PartialDuty → ℕ → Type 0
IsReachInside case driver pairs partial reach =
    (more : PartialDuty) → IsCompletion case driver partial more → IsInside case.week pairs driver (more ++ partial) → ServesWithin reach more

-- a label betters another where orders out of reach are ignored: as Dominates, but of the orders that the other doesn't
-- serve it may have served those that are not in `reach`
pub record DominatesWithin (a b : Label) (forced reach : ℕ) : Type 0 where
  pub clock : ClockDominates a.clock b.clock
  pub place : a.place ≡ b.place
  pub used : a.used ≤ b.used
  pub value : a.value ≤ℤ b.value
  pub loaded : b.loaded ≡ true → a.loaded ≡ true
  pub among : (order : ℕ) → bit_at reach order ≡ 1 → bit_at a.served order ≤ bit_at b.served order
  pub agree : (order : ℕ) → bit_at forced order ≡ 1 → bit_at a.served order ≡ bit_at b.served order

-- a label that betters another does so within any reach
abbrev pub DominatesWithinAny : Type 0
DominatesWithinAny = (a b : Label) (forced reach : ℕ) → Dominates a b forced → DominatesWithin a b forced reach

-- the partial duty serves no order that is Barred for the driver
abbrev pub ServesNoBarred : Week → Pairs → ℕ → PartialDuty → Type 0
ServesNoBarred week pairs driver partial =
    (order : ℕ) → order < length week.orders → pair_at pairs driver order ≡ Barred → serves order partial ≡ false

-- as IsSimulated, but the whole is inside only where the better partial duty serves no Barred order: it may have served an order
-- that the worse one did not
pub record IsSimulatedWithin (case : Case) (driver : ℕ) (prices : Prices) (forced : ℕ) (better worse more later : PartialDuty) : Type 0 where
  pub lawful : IsLawfulPartialDuty case driver (later ++ better)
  pub place : place_after (later ++ better) ≡ place_after (more ++ worse)
  pub acts : acts_of later ≡ acts_of more
  pub orders : orders_of later ≡ orders_of more
  pub cost : cost_after case driver (later ++ better) + cost_after case driver worse
      ≡ cost_after case driver (more ++ worse) + cost_after case driver better
  pub early : at_after case.week (later ++ better) ≤ at_after case.week (more ++ worse)
  pub value : reduced_cost case driver prices (later ++ better) ≤ℤ reduced_cost case driver prices (more ++ worse)
  pub inside : (pairs : Pairs) → forced ≡ forced_orders case.week pairs driver → ServesNoBarred case.week pairs driver better →
      IsInside case.week pairs driver (more ++ worse) → IsInside case.week pairs driver (later ++ better)

-- where one label betters another within a set of orders, both after an act, each list of steps that serves only orders of
-- the set and may follow the worse one's partial duty may follow the better one's, delayed by the minutes between the two
abbrev pub SimulatesWithin : Type 0
SimulatesWithin = (case : Case) (driver : ℕ) (prices : Prices) (forced reach : ℕ) (a b : Label) (better worse more : PartialDuty) →
    IsCase case → IsLawfulPartialDuty case driver better → IsLawfulPartialDuty case driver worse →
    IsLabelOf case driver prices a better → IsLabelOf case driver prices b worse →
    a.fee_paid ≡ true → b.fee_paid ≡ true → DominatesWithin a b forced reach → ServesWithin reach more →
    IsLawfulPartialDuty case driver (more ++ worse) →
    IsSimulatedWithin case driver prices forced better worse more (delayed (b.clock.at - a.clock.at) more)

-- so where the set is an upper bound of what may be served after the worse one's partial duty, each completion of that partial duty,
-- delayed by the minutes between the two, is one of the better one's
abbrev pub KeepsCompletionsWithin : Type 0
KeepsCompletionsWithin = (case : Case) (driver : ℕ) (prices : Prices) (forced reach : ℕ) (a b : Label) (better worse more : PartialDuty) →
    IsCase case → IsLawfulPartialDuty case driver better → IsLawfulPartialDuty case driver worse →
    IsLabelOf case driver prices a better → IsLabelOf case driver prices b worse →
    a.fee_paid ≡ true → b.fee_paid ≡ true → DominatesWithin a b forced reach → IsReach case driver worse reach →
    IsCompletion case driver worse more → IsCompletion case driver better (delayed (b.clock.at - a.clock.at) more)

-- the orders whose windows close no earlier than a minute
abbrev pub open_from : Week → ℕ → ℕ
open_from week at = bits_below (λ order. nat_le at (closes_of (order_of week order))) (length week.orders)

-- they are an upper bound of what may be served after a partial duty that ends at the minute
abbrev pub ReachesOpen : Type 0
ReachesOpen = (case : Case) (driver : ℕ) (partial : PartialDuty) → IsReach case driver partial (open_from case.week (at_after case.week partial))

-- they are an upper bound of what may be served after a partial duty that ends there and then
abbrev pub ReachesByLegs : Type 0
ReachesByLegs = (case : Case) (driver : ℕ) (least : ℕ → ℕ → ℕ) (partial : PartialDuty) → AreLeastMinutes case.week least →
    IsReach case driver partial (reached_from case.week least (at_after case.week partial) (place_after partial))

-- and so of a label's partial duty, by the label alone
abbrev pub LabelReaches : Type 0
LabelReaches = (case : Case) (driver : ℕ) (prices : Prices) (least : ℕ → ℕ → ℕ) (label : Label) (partial : PartialDuty) →
    AreLeastMinutes case.week least → IsLabelOf case driver prices label partial →
    IsReach case driver partial (reached_from case.week least label.clock.at label.place)

-- the same by windows alone
abbrev pub LabelReachesOpen : Type 0
LabelReachesOpen = (case : Case) (driver : ℕ) (prices : Prices) (label : Label) (partial : PartialDuty) → IsLabelOf case driver prices label partial →
    IsReach case driver partial (open_from case.week label.clock.at)

-- of two upper bounds what both have is one
abbrev pub ReachesBoth : Type 0
ReachesBoth = (case : Case) (driver : ℕ) (partial : PartialDuty) (one two : ℕ) → IsReach case driver partial one → IsReach case driver partial two →
    IsReach case driver partial (bit_and one two)

-- a label list whose labels were tested within reach: as IsLabelList, but no entry except the first betters a later one
-- even within the later one's reach, nor any that was extended
pub record IsLabelListWithin (case : Case) (driver : ℕ) (pairs : Pairs) (prices : Prices) (reach_of : Label → ℕ) (entries : List Entry) : Type 0 where
  pub some : 0 < length entries
  pub entry : EachOf (λ n e. IsEntry case driver pairs prices e) entries
  pub first : (e : Entry) → slice_get entries 0 ≡ Some e → e.partial ≡ []
  pub extended : (n : ℕ) (e : Entry) → 0 < n → slice_get entries n ≡ Some e → IsExtended case driver prices entries n e
  pub not_bettered : (n k : ℕ) (e better : Entry) → 0 < k → k < n → slice_get entries n ≡ Some e →
      slice_get entries k ≡ Some better → DominatesWithin better.label e.label (forced_orders case.week pairs driver) (reach_of e.label) → ⊥
  pub best_extended : (n k child : ℕ) (e better c : Entry) → 0 < n → 0 < k → 0 < child → k ≢ n → slice_get entries n ≡ Some e →
      slice_get entries k ≡ Some better → slice_get entries child ≡ Some c → c.parent ≡ n →
      DominatesWithin better.label e.label (forced_orders case.week pairs driver) (reach_of e.label) → ⊥
  pub on_time : (n order : ℕ) (e : Entry) → 0 < n → slice_get entries n ≡ Some e → order < length case.week.orders →
      pair_at pairs driver order ≡ Forced → closes_of (order_of case.week order) < at_after case.week e.partial → serves order e.partial ≡ true
  pub hopeful : (n k : ℕ) (e known : Entry) → k < n → slice_get entries n ≡ Some e → slice_get entries k ≡ Some known →
      place_after known.partial ≡ 0 → IsInside case.week pairs driver known.partial →
      completion_bound case driver pairs prices e.partial <ℤ reduced_cost case driver prices known.partial

-- it is a label list, whatever set of orders each label was tested within
abbrev pub ListsWithin : Type 0
ListsWithin = (case : Case) (driver : ℕ) (pairs : Pairs) (prices : Prices) (reach_of : Label → ℕ) (entries : List Entry) →
    IsLabelListWithin case driver pairs prices reach_of entries → IsLabelList case driver pairs prices entries
