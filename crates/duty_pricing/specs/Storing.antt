-- What must hold of a label that is stored, so that the stored labels stay a label list, and what longer lists keep.
use Rattle.std.specs.Prelude.{◌≡◌, ◌≢◌, ℕ, ◌<◌, ◌≤◌, true, List, ◌∷◌, length, ℤ, Option, Some, slice_get}
use Rattle.week_book.specs.Weeks.{order_of}
use Rattle.duty_plan.specs.declared.duties.Step.{Step}
use Rattle.duty_plan.specs.declared.plans.Case.{Case}
use Rattle.duty_plan.specs.declared.deciding.Pair.TheVariants.{Forced}
use Rattle.duty_plan.specs.declared.deciding.Pairs.{Pairs}
use Rattle.duty_plan.specs.declared.pricing.Prices.{Prices}
use Rattle.duty_plan.specs.declared.labels.Label.{Label}
use Rattle.duty_plan.specs.PartialDuties.{PartialDuty, at_after, serves}
use Rattle.duty_plan.specs.Values.{pair_at}
use Rattle.duty_plan.specs.Labels.{Dominates, closes_of, forced_orders}
use Rattle.duty_plan.specs.LabelLists.{Entry, IsEntry, completion_bound}
use Rattle.duty_label.specs.Pruning.{Knows}

-- no entry but the first betters the label, the entry of that number aside
abbrev pub IsUnbettered : Case → ℕ → Pairs → List Entry → ℕ → Label → Type 0
IsUnbettered case driver pairs entries n label =
    (k : ℕ) (other : Entry) → 0 < k → k ≢ n → slice_get entries k ≡ Some other →
    Dominates other.label label (forced_orders case.week pairs driver) → ⊥

-- each entry that was extended ends at the minute or before it
abbrev pub AreExtendedBy : ℕ → List Entry → Type 0
AreExtendedBy minute entries =
    (child : ℕ) (c from : Entry) → 0 < child → slice_get entries child ≡ Some c → slice_get entries c.parent ≡ Some from →
    from.label.clock.at ≤ minute

-- the partial duty serves each forced order whose window has closed
abbrev pub IsOnTime : Case → ℕ → Pairs → PartialDuty → Type 0
IsOnTime case driver pairs partial =
    (order : ℕ) → order < length case.week.orders → pair_at pairs driver order ≡ Forced →
    closes_of (order_of case.week order) < at_after case.week partial → serves order partial ≡ true

-- less may be hoped for than what is known
abbrev pub IsHopeful : Case → ℕ → Pairs → Prices → Option ℤ → PartialDuty → Type 0
IsHopeful case driver pairs prices known partial = Knows known (completion_bound case driver pairs prices partial) → ⊥

-- what the tests of a child at a minute show: it goes on from an entry of that minute which no other betters, it ends later,
-- no entry betters it, it is on time, and its completion bound is below what is known
pub record IsNewEntry (case : Case) (driver : ℕ) (pairs : Pairs) (prices : Prices) (minute : ℕ) (known : Option ℤ) (entries : List Entry)
    (entry : Entry) : Type 0 where
  pub from : Entry
  pub step : Step
  pub is_from : slice_get entries entry.parent ≡ Some from
  pub is_step : entry.partial ≡ step ∷ from.partial
  pub is_entry : IsEntry case driver pairs prices entry
  pub best : 0 < entry.parent → IsUnbettered case driver pairs entries entry.parent from.label
  pub begun : from.label.clock.at ≤ minute
  pub later : minute < entry.label.clock.at
  pub new : (k : ℕ) (other : Entry) → 0 < k → slice_get entries k ≡ Some other →
      Dominates other.label entry.label (forced_orders case.week pairs driver) → ⊥
  pub on_time : IsOnTime case driver pairs entry.partial
  pub hopeful : IsHopeful case driver pairs prices known entry.partial

-- what was as low still is
abbrev pub IsNoHigher : Option ℤ → Option ℤ → Type 0
IsNoHigher old new = (value : ℤ) → Knows old value → Knows new value
