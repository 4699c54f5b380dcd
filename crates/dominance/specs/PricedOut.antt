-- When labels that were tested within reach show the least value: no lawful duty inside is worth less than what is known.
use Rattle.std.specs.Prelude.{◌≡◌, ◌≢◌, ◌⊎◌, ℕ, ◌<◌, true, false, List, ◌∷◌, length, ℤ, Option, Some, slice_get}
use Rattle.week_book.specs.Weeks.{order_of}
use Rattle.duty_plan.specs.declared.duties.Duty.{Duty}
use Rattle.duty_plan.specs.declared.duties.Step.{Step}
use Rattle.duty_plan.specs.declared.plans.Case.{Case}
use Rattle.duty_plan.specs.declared.deciding.Pair.TheVariants.{Forced}
use Rattle.duty_plan.specs.declared.deciding.Pairs.{Pairs}
use Rattle.duty_plan.specs.declared.pricing.Prices.{Prices}
use Rattle.duty_plan.specs.declared.labels.Label.{Label}
use Rattle.duty_plan.specs.PartialDuties.{PartialDuty, place_after, at_after, serves}
use Rattle.duty_plan.specs.Duties.{IsCase, IsLawfulPartialDuty, partial_of}
use Rattle.duty_plan.specs.Values.{pair_at, IsInside, IsChoice, reduced_cost}
use Rattle.duty_plan.specs.Labels.{IsLabelOf, closes_of, forced_orders, is_listed}
use Rattle.duty_plan.specs.LabelLists.{Entry, completion_bound}
use Rattle.duty_label.specs.Pruning.{Knows}
use Rattle.dominance.specs.Reaching.{DominatesWithin, IsLabelListWithin, IsReachInside, ServesNoBarred}

-- the reach that is read from a label is an upper bound of what completions inside of its partial duty serve
abbrev pub AreReaches : Case → ℕ → Pairs → Prices → (Label → ℕ) → Type 0
AreReaches case driver pairs prices reach_of =
    (label : Label) (partial : PartialDuty) → IsLabelOf case driver prices label partial → IsReachInside case driver pairs partial (reach_of label)

-- an entry but the first betters the label of the partial duty within the label's reach; so it is where that label is an entry's
pub record IsCoveredWithin (case : Case) (driver : ℕ) (pairs : Pairs) (prices : Prices) (reach_of : Label → ℕ) (entries : List Entry)
    (partial : PartialDuty) : Type 0 where
  pub number : ℕ
  pub entry : Entry
  pub label : Label
  pub begun : 0 < number
  pub is_entry : slice_get entries number ≡ Some entry
  pub has_label : IsLabelOf case driver prices label partial
  pub better : DominatesWithin entry.label label (forced_orders case.week pairs driver) (reach_of label)

-- the partial duty lacks an order that is Forced for the driver and whose window has closed
pub record IsTooLate (case : Case) (driver : ℕ) (pairs : Pairs) (partial : PartialDuty) : Type 0 where
  pub order : ℕ
  pub in_week : order < length case.week.orders
  pub forced : pair_at pairs driver order ≡ Forced
  pub closed : closes_of (order_of case.week order) < at_after case.week partial
  pub lacks : serves order partial ≡ false

-- a partial duty need not be stored: it is covered, or too late, or its completion bound is no less than what is known
abbrev pub IsSparedWithin : Case → ℕ → Pairs → Prices → (Label → ℕ) → Option ℤ → List Entry → PartialDuty → Type 0
IsSparedWithin case driver pairs prices reach_of known entries partial =
    IsCoveredWithin case driver pairs prices reach_of entries partial
    ⊎ (IsTooLate case driver pairs partial ⊎ Knows known (completion_bound case driver pairs prices partial))

-- each listed step that is lawful after the partial duty and serves no Barred order was tried
abbrev pub IsGrownWithin : Case → ℕ → Pairs → Prices → (Label → ℕ) → Option ℤ → List Entry → PartialDuty → Type 0
IsGrownWithin case driver pairs prices reach_of known entries partial =
    (step : Step) → is_listed case.week step partial ≡ true → IsLawfulPartialDuty case driver (step ∷ partial) →
    ServesNoBarred case.week pairs driver (step ∷ partial) → IsSparedWithin case driver pairs prices reach_of known entries (step ∷ partial)

-- an entry but the first, and not entry n itself, betters the label of entry n within that label's reach
pub record IsSettledWithin (case : Case) (driver : ℕ) (pairs : Pairs) (reach_of : Label → ℕ) (entries : List Entry) (n : ℕ) (entry : Entry) : Type 0 where
  pub number : ℕ
  pub other : Entry
  pub begun : (0 < n) × (0 < number)
  pub apart : number ≢ n
  pub is_other : slice_get entries number ≡ Some other
  pub better : DominatesWithin other.label entry.label (forced_orders case.week pairs driver) (reach_of entry.label)

-- all entries of a label list whose labels were tested within reach are done with: each is settled, or grown, and what is known is
-- as low as the value of each lawful duty inside among them
pub record ArePricedOut (case : Case) (driver : ℕ) (pairs : Pairs) (prices : Prices) (reach_of : Label → ℕ) (known : Option ℤ)
    (entries : List Entry) : Type 0 where
  pub list : IsLabelListWithin case driver pairs prices reach_of entries
  pub reaches : AreReaches case driver pairs prices reach_of
  pub shown : (n : ℕ) (e : Entry) → slice_get entries n ≡ Some e → place_after e.partial ≡ 0 → IsInside case.week pairs driver e.partial →
      Knows known (reduced_cost case driver prices e.partial)
  pub done : (n : ℕ) (e : Entry) → slice_get entries n ≡ Some e →
      IsSettledWithin case driver pairs reach_of entries n e ⊎ IsGrownWithin case driver pairs prices reach_of known entries e.partial

-- then no lawful duty inside is worth less than what is known; where nothing is known there is none
abbrev pub PricesOut : Type 0
PricesOut = (case : Case) (driver : ℕ) (pairs : Pairs) (prices : Prices) (reach_of : Label → ℕ) (known : Option ℤ) (entries : List Entry)
    (duty : Duty) → IsCase case → ArePricedOut case driver pairs prices reach_of known entries → IsChoice case driver pairs duty →
    Knows known (reduced_cost case driver prices (partial_of duty))
