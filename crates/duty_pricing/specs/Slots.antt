-- The entries that slots stand for, and the links between slots.
use Rattle.std.specs.Prelude.{◌≡◌, ℕ, zero, suc, ◌+◌, ◌*◌, ◌/◌, ◌<◌, ◌≤ℤ◌, pos, ℤ, min, Bool, false, ◌==◌, if◌then◌else◌, List, [], ◌∷◌, ◌++◌, length, Option, Some, None, slice_get, slice_index}
use Rattle.std.specs.List.{fold}
use Rattle.duty_plan.specs.declared.duties.Step.{Step}
use Rattle.duty_plan.specs.declared.labels.Label.{Label}
use Rattle.duty_plan.specs.PartialDuties.{PartialDuty}
use Rattle.duty_plan.specs.LabelLists.{Entry}
use Rattle.duty_plan.specs.Values.{or_zero}
use Rattle.duty_pricing.specs.declared.slots.Slot.{Slot}

-- the partial duty of an entry, where there is one
abbrev pub partial_or_none : Option Entry → PartialDuty
partial_or_none None = []
partial_or_none (Some entry) = entry.partial

-- the partial duty of the entry of that number; the empty one past the last
abbrev pub partial_at : List Entry → ℕ → PartialDuty
partial_at entries n = partial_or_none (slice_get entries n)

-- the entry that a slot stands for, after those of the slots before it: the first is the empty partial duty's, each later one goes on
-- from its parent's by its step
abbrev pub entry_after : List Entry → Slot → Entry
entry_after [] slot = record { label = slot.label; partial = []; parent = slot.parent }
entry_after (entry ∷ rest) slot =
    record { label = slot.label; partial = slot.step ∷ partial_at (entry ∷ rest) slot.parent; parent = slot.parent }

-- the entries, and that of one slot more
abbrev pub add_entry : List Entry → Slot → List Entry
add_entry entries slot = entries ++ entry_after entries slot ∷ []

-- the entries that slots stand for
abbrev pub entries_of : List Slot → List Entry
entries_of slots = fold add_entry [] slots

-- one more than the last number below n at which a test holds; 0 where it holds at none
abbrev pub latest : (ℕ → Bool) → ℕ → ℕ
latest test zero = 0
latest test (suc n) = if test n then suc n else latest test n

-- a slot has the key
abbrev pub slot_has : (Slot → ℕ) → ℕ → Option Slot → Bool
slot_has key k None = false
slot_has key k (Some slot) = key slot == k

-- the slot of that number has the key
abbrev pub has_key : (Slot → ℕ) → List Slot → ℕ → ℕ → Bool
has_key key slots k n = slot_has key k (slice_get slots n)

-- each key's head leads to the last slot that has it, and each slot's link to the last one before it that has its key
pub record AreLinked (key link : Slot → ℕ) (heads : List ℕ) (slots : List Slot) : Type 0 where
  pub heads_lead : (k : ℕ) → k < length heads → slice_index heads k ≡ latest (has_key key slots k) (length slots)
  pub links_lead : (n : ℕ) (slot : Slot) → slice_get slots n ≡ Some slot → link slot ≡ latest (has_key key slots (key slot)) n

-- the minute of a slot's label
abbrev pub minute_of : Slot → ℕ
minute_of slot = slot.label.clock.at

-- the hour of the week in which a work day began, from 0 to 168; the first where it began before the week
abbrev pub day_hour : ℤ → ℕ
day_hour from = min (or_zero from / 60) 168

-- the cell of a place, of whether the driving period has the first part of a break, and of an hour: a place has the 169 hours of a
-- week's minutes, from 0 to 10,080, for either
abbrev pub cell_at : ℕ → Bool → ℕ → ℕ
cell_at place half hour = (place * 2 + (if half then 1 else 0)) * 169 + hour

-- the cell of a slot's label, by the hour in which its work day began
abbrev pub cell_of : Slot → ℕ
cell_of slot = cell_at slot.label.place slot.label.clock.half (day_hour slot.label.clock.day_from)

-- the slots of a minute and those of a cell are linked
pub record AreChained (minutes cells : List ℕ) (slots : List Slot) : Type 0 where
  pub by_minute : AreLinked minute_of (λ slot. slot.same_minute) minutes slots
  pub by_cell : AreLinked cell_of (λ slot. slot.same_cell) cells slots

-- the work day of each slot's label began at its minute or before it
abbrev pub HaveDays : List Slot → Type 0
HaveDays slots = (n : ℕ) (slot : Slot) → slice_get slots n ≡ Some slot → slot.label.clock.day_from ≤ℤ pos slot.label.clock.at

-- one slot more, with a label, a step and a parent
pub record AddsSlot (label : Label) (step : Step) (parent : ℕ) (old new : List Slot) : Type 0 where
  pub slot : Slot
  pub is : new ≡ old ++ slot ∷ []
  pub label_is : slot.label ≡ label
  pub step_is : slot.step ≡ step
  pub parent_is : slot.parent ≡ parent

-- each slot but the first goes on from an earlier one
abbrev pub HaveParents : List Slot → Type 0
HaveParents slots = (n : ℕ) (slot : Slot) → 0 < n → slice_get slots n ≡ Some slot → slot.parent < n
