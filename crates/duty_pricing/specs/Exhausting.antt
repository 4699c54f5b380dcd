-- When no lawful duty inside is worth less than what the stored labels of a driver have shown.
use Rattle.std.specs.Prelude.{◌≡◌, ◌⊎◌, ℕ, ◌<◌, true, List, [], ◌∷◌, ◌++◌, ℤ, Option, Some, slice_get}
use Rattle.duty_plan.specs.declared.duties.Duty.{Duty}
use Rattle.duty_plan.specs.declared.duties.Step.{Step}
use Rattle.duty_plan.specs.declared.plans.Case.{Case}
use Rattle.duty_plan.specs.declared.deciding.Pairs.{Pairs}
use Rattle.duty_plan.specs.declared.pricing.Prices.{Prices}
use Rattle.duty_plan.specs.declared.labels.Label.{Label}
use Rattle.duty_plan.specs.PartialDuties.{PartialDuty, place_after}
use Rattle.duty_plan.specs.Duties.{EachOf, IsCase, IsLawfulPartialDuty, partial_of}
use Rattle.duty_plan.specs.Values.{IsInside, IsChoice, reduced_cost}
use Rattle.duty_plan.specs.Labels.{IsLabelOf, forced_orders, has_step, is_listed}
use Rattle.duty_plan.specs.LabelLists.{Entry}
use Rattle.duty_label.specs.Children.{HasLabel}
use Rattle.duty_label.specs.Pruning.{Knows}
use Rattle.dominance.specs.Completions.{IsCompletion}
use Rattle.dominance.specs.Reaching.{DominatesWithin, IsReach, ServesNoBarred}

-- no lawful duty inside that begins with the partial duty is worth less than what is known; where nothing is known there is none
abbrev pub IsHopeless : Case → ℕ → Pairs → Prices → Option ℤ → PartialDuty → Type 0
IsHopeless case driver pairs prices known partial =
    (more : PartialDuty) → IsCompletion case driver partial more → IsInside case.week pairs driver (more ++ partial) →
    Knows known (reduced_cost case driver prices (more ++ partial))

-- a step that must be tried after a partial duty: its stay is listed, and the longer partial duty is lawful and serves no Barred order
pub record MayFollow (case : Case) (driver : ℕ) (pairs : Pairs) (step : Step) (before : PartialDuty) : Type 0 where
  pub listed : is_listed case.week step before ≡ true
  pub lawful : IsLawfulPartialDuty case driver (step ∷ before)
  pub unbarred : ServesNoBarred case.week pairs driver (step ∷ before)

-- an entry but the first betters the label of the partial duty, where orders out of its reach are ignored; so it is where that
-- label is an entry's
pub record IsCovered (case : Case) (driver : ℕ) (pairs : Pairs) (prices : Prices) (entries : List Entry) (partial : PartialDuty) : Type 0 where
  pub number : ℕ
  pub entry : Entry
  pub label : Label
  pub begun : 0 < number
  pub is_entry : slice_get entries number ≡ Some entry
  pub has_label : IsLabelOf case driver prices label partial
  pub reach : ℕ
  pub in_reach : IsReach case driver partial reach
  pub better : DominatesWithin entry.label label (forced_orders case.week pairs driver) reach

-- a later entry betters the label of entry n, where orders out of its reach are ignored
pub record IsSettled (case : Case) (driver : ℕ) (pairs : Pairs) (entries : List Entry) (n : ℕ) (entry : Entry) : Type 0 where
  pub number : ℕ
  pub other : Entry
  pub begun : 0 < n
  pub later : n < number
  pub is_other : slice_get entries number ≡ Some other
  pub reach : ℕ
  pub in_reach : IsReach case driver entry.partial reach
  pub better : DominatesWithin other.label entry.label (forced_orders case.week pairs driver) reach

-- a partial duty need not be stored: it is covered, or hopeless
abbrev pub IsSpared : Case → ℕ → Pairs → Prices → Option ℤ → List Entry → PartialDuty → Type 0
IsSpared case driver pairs prices known entries partial =
    IsCovered case driver pairs prices entries partial ⊎ IsHopeless case driver pairs prices known partial

-- each step that must be tried after the partial duty was tried
abbrev pub IsGrown : Case → ℕ → Pairs → Prices → Option ℤ → List Entry → PartialDuty → Type 0
IsGrown case driver pairs prices known entries partial =
    (step : Step) → MayFollow case driver pairs step partial → IsSpared case driver pairs prices known entries (step ∷ partial)

-- entry n is done with: a later entry betters it, or each step was tried
abbrev pub IsDone : Case → ℕ → Pairs → Prices → Option ℤ → List Entry → ℕ → Entry → Type 0
IsDone case driver pairs prices known entries n entry =
    IsSettled case driver pairs entries n entry ⊎ IsGrown case driver pairs prices known entries entry.partial

-- where the entry is a lawful duty inside, what is known is as low
abbrev pub IsKnown : Case → ℕ → Pairs → Prices → Option ℤ → Entry → Type 0
IsKnown case driver pairs prices known entry =
    place_after entry.partial ≡ 0 → IsInside case.week pairs driver entry.partial →
    Knows known (reduced_cost case driver prices entry.partial)

-- each entry has the label of a lawful partial duty that serves no Barred order, and each but the first has a step
pub record HaveLabels (case : Case) (driver : ℕ) (pairs : Pairs) (prices : Prices) (entries : List Entry) : Type 0 where
  pub each : EachOf (λ n e. HasLabel case driver prices e.partial e.label) entries
  pub unbarred : EachOf (λ n e. ServesNoBarred case.week pairs driver e.partial) entries
  pub begun : (n : ℕ) (e : Entry) → 0 < n → slice_get entries n ≡ Some e → has_step e.partial ≡ true

-- all entries are done with, and what is known is as low as each lawful duty inside among them
pub record AreExhausted (case : Case) (driver : ℕ) (pairs : Pairs) (prices : Prices) (known : Option ℤ) (entries : List Entry) : Type 0 where
  pub labels : HaveLabels case driver pairs prices entries
  pub done : EachOf (λ n e. IsDone case driver pairs prices known entries n e) entries
  pub shown : EachOf (λ n e. IsKnown case driver pairs prices known e) entries

-- in exhausted entries each partial duty is hopeless
abbrev pub Exhausts : Type 0
Exhausts = (case : Case) (driver : ℕ) (pairs : Pairs) (prices : Prices) (known : Option ℤ) (entries : List Entry) → IsCase case →
    AreExhausted case driver pairs prices known entries →
    EachOf (λ n e. IsHopeless case driver pairs prices known e.partial) entries

-- so where the first entry is the empty partial duty's, no lawful duty inside is worth less than what is known
abbrev pub ExhaustsDuties : Type 0
ExhaustsDuties = (case : Case) (driver : ℕ) (pairs : Pairs) (prices : Prices) (known : Option ℤ) (entries : List Entry) (first : Entry) →
    IsCase case → AreExhausted case driver pairs prices known entries → slice_get entries 0 ≡ Some first → first.partial ≡ [] →
    (duty : Duty) → IsChoice case driver pairs duty → Knows known (reduced_cost case driver prices (partial_of duty))
