-- Laws on labels and label lists.
use Rattle.std.specs.Prelude.{Bool, ◌≡◌, ◌≢◌, ℕ, ◌<◌, if◌then◌else◌, List, [], ◌∷◌, Some, slice_get}
use Rattle.std.specs.Int.{bit_at}
use Rattle.duty_plan.specs.declared.plans.Case.{Case}
use Rattle.duty_plan.specs.declared.deciding.Pairs.{Pairs}
use Rattle.duty_plan.specs.declared.pricing.Prices.{Prices}
use Rattle.duty_plan.specs.declared.labels.Label.{Label}
use Rattle.duty_plan.specs.PartialDuties.{PartialDuty, serves}
use Rattle.duty_plan.specs.Labels.{IsLabelOf, served_after, bits_below}
use Rattle.duty_plan.specs.LabelLists.{IsLabelList, Entry}

-- the bits of the served orders are the orders that a partial duty serves, and no bit above them is set
abbrev pub HasServedBits : Type 0
HasServedBits = (order : ℕ) (partial : PartialDuty) → bit_at (served_after partial) order ≡ (if serves order partial then 1 else 0)

-- the bits of a number made of tests are the numbers at which the test holds
abbrev pub HasTestBits : Type 0
HasTestBits = (test : ℕ → Bool) (n k : ℕ) → k < n → bit_at (bits_below test n) k ≡ (if test k then 1 else 0)

-- a partial duty has one label
abbrev pub HasOneLabel : Type 0
HasOneLabel = (case : Case) (driver : ℕ) (prices : Prices) (a b : Label) (partial : PartialDuty) →
    IsLabelOf case driver prices a partial → IsLabelOf case driver prices b partial → a ≡ b

-- the list of the empty partial duty's label alone
abbrev pub alone : Label → List Entry
alone label = record { label = label; partial = []; parent = 0 } ∷ []

-- the empty partial duty's label alone is a label list
abbrev pub IsListAlone : Type 0
IsListAlone = (case : Case) (driver : ℕ) (pairs : Pairs) (prices : Prices) (label : Label) → IsLabelOf case driver prices label [] →
    IsLabelList case driver pairs prices (alone label)

-- no label stands twice in a label list
abbrev pub HasNoRepeat : Type 0
HasNoRepeat = (case : Case) (driver : ℕ) (pairs : Pairs) (prices : Prices) (entries : List Entry) →
    IsLabelList case driver pairs prices entries → (n k : ℕ) (e f : Entry) → k < n → slice_get entries n ≡ Some e →
    slice_get entries k ≡ Some f → e.label ≢ f.label
