-- The plain store of labels, whose answer is that of the links between slots.
use Rattle.std.specs.Prelude.{◌≡◌, ◌↔◌, ℕ, ◌≤◌, true, List, Some, slice_get}
use Rattle.std.specs.Int.{bit_at}
use Rattle.duty_plan.specs.declared.labels.Label.{Label}
use Rattle.dominance.specs.declared.storing.Fronts.{Fronts}
use Rattle.dominance.specs.Storing.{Holds}
use Rattle.duty_pricing.specs.declared.slots.Slot.{Slot}

-- a slot of that number or a later one has the label
abbrev pub HasLabelFrom : List Slot → ℕ → Label → Type 0
HasLabelFrom slots from label = (n : ℕ) × (slot : Slot) × (from ≤ n) × (slice_get slots n ≡ Some slot) × (slot.label ≡ label)

-- the plain store holds the labels of these slots and no other, and each is one after at least one act
pub record HoldsSlots (fronts : Fronts) (slots : List Slot) (from : ℕ) : Type 0 where
  pub holds : (label : Label) → Holds fronts label ↔ HasLabelFrom slots from label
  pub begun : (label : Label) → HasLabelFrom slots from label → label.fee_paid ≡ true

-- each order that a slot's label serves is among these, given as bits
abbrev pub ServeAmong : List Slot → ℕ → Type 0
ServeAmong slots orders = (n order : ℕ) (slot : Slot) → slice_get slots n ≡ Some slot → bit_at slot.label.served order ≡ 1 → bit_at orders order ≡ 1
