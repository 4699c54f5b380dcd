-- The labels that are stored for a driver, and the labels that they better.
use Rattle.std.specs.Prelude.{◌≡◌, ◌↔◌, ◌⊎◌, ℕ, true, length, Contains}
use Rattle.duty_plan.specs.declared.labels.Label.{Label}
use Rattle.duty_plan.specs.Labels.{Dominates}
use Rattle.dominance.specs.declared.storing.Fronts.{Fronts}
use Rattle.dominance.specs.Filing.{list_at}

-- how many places have a list
abbrev pub place_count : Fronts → ℕ
place_count partials = length partials.by_place.items

-- a label is held: it stands in the list of a place
abbrev pub Holds : Fronts → Label → Type 0
Holds partials label = (place : ℕ) × Contains (list_at partials.by_place.items place) label

-- for so many places and these forced orders, given as bits
abbrev pub IsFor : ℕ → ℕ → Fronts → Type 0
IsFor places forced partials = (place_count partials ≡ places) × (partials.forced ≡ forced)

-- no label is held
abbrev pub HoldsNone : Fronts → Type 0
HoldsNone partials = (label : Label) → Holds partials label → ⊥

-- the same labels are held
abbrev pub HoldsSame : Fronts → Fronts → Type 0
HoldsSame old new = (label : Label) → Holds new label ↔ Holds old label

-- a label is added: it is held with those that were held, and no other is
abbrev pub AddsLabel : Fronts → Fronts → Label → Type 0
AddsLabel old new added = (label : Label) → Holds new label ↔ (Holds old label ⊎ (label ≡ added))

-- a held label after at least one act betters a label
abbrev pub IsDominated : Fronts → Label → Type 0
IsDominated partials label = (held : Label) × Holds partials held × (held.fee_paid ≡ true) × Dominates held label partials.forced
