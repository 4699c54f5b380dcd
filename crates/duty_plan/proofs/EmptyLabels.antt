-- The label of the empty partial duty, and the list of it alone for a driver without entries.
use Rattle.std.proofs.Common.{ℕ, ◌≤◌, false, List, [], ◌∷◌, length, refl, arith}
use Rattle.hours_rules.proofs.LineClocks.{clock_of, clock-stands}
use Rattle.duty_plan.specs.declared.plans.Case.{Case}
use Rattle.duty_plan.specs.declared.pricing.Prices.{Prices}
use Rattle.duty_plan.specs.declared.labels.Label.{Label}
use Rattle.duty_plan.specs.Duties.{past_at}
use Rattle.duty_plan.specs.Values.{reduced_cost}
use Rattle.duty_plan.specs.Labels.{IsLabelOf}
use Rattle.duty_plan.specs.LabelLists.{Entry}
use Rattle.duty_plan.specs.LabelLaws.{alone}

-- the label of the empty partial duty
abbrev pub label_of : Case → ℕ → Prices → Label
label_of case driver prices = record {
  clock = clock_of (past_at case driver) [];
  place = 0;
  served = 0;
  used = 0;
  loaded = false;
  fee_paid = false;
  value = reduced_cost case driver prices [];
}

pub label-of : (case : Case) (driver : ℕ) (prices : Prices) → IsLabelOf case driver prices (label_of case driver prices) []
label-of case driver prices = record {
  clock = clock-stands (past_at case driver) [];
  place = refl;
  served = refl;
  used = refl;
  loaded = refl;
  fee_paid = refl;
  value = refl;
}

-- the list of a driver: the entries, or where there are none the label of the empty partial duty alone
abbrev pub or_alone : List Entry → List Entry → List Entry
or_alone other [] = other
or_alone other (e ∷ rest) = e ∷ rest

abbrev pub list_of : Case → Prices → (ℕ → List Entry) → ℕ → List Entry
list_of case prices entries driver = or_alone (alone (label_of case driver prices)) (entries driver)

pub long-enough : (other entries : List Entry) → 1 ≤ length other → (1 ≤ length (or_alone other entries)) × (length entries ≤ length (or_alone other entries))
long-enough other [] l = (l, omega arith)
long-enough other (e ∷ rest) l = (omega arith, omega arith)
