-- Which slots of a pricing are done with.
use Rattle.std.specs.Prelude.{◌≡◌, ℕ, ◌<◌, Some, slice_get}
use Rattle.duty_plan.specs.declared.labels.Label.{Label}
use Rattle.duty_plan.specs.LabelLists.{Entry}
use Rattle.duty_label.specs.Pruning.{minutes_between}
use Rattle.duty_label.specs.Walks.{reached_from}
use Rattle.dominance.specs.Reaching.{DominatesWithin}
use Rattle.duty_pricing.specs.declared.asking.Asked.{Asked}
use Rattle.duty_pricing.specs.declared.stores.LabelStore.{LabelStore}
use Rattle.duty_pricing.specs.declared.slots.Slot.{Slot}
use Rattle.duty_pricing.specs.Exhausting.{IsDone}
use Rattle.duty_pricing.specs.Slots.{entries_of}

-- slot n has the label
pub record IsEntryOf (store : LabelStore) (n : ℕ) (label : Label) : Type 0 where
  pub entry : Entry
  pub is_entry : slice_get (entries_of store.slots) n ≡ Some entry
  pub is_label : entry.label ≡ label

-- the orders that may be served after a label, by the walks from its place; order n is the bit n
abbrev pub reach_of : Asked → Label → ℕ
reach_of asked label = reached_from asked.case.now.week (minutes_between asked.walks.now) label.clock.at label.place

-- a slot after slot n, which is not the first, betters its label, where orders out of reach are ignored
pub record IsSettledAt (asked : Asked) (store : LabelStore) (n : ℕ) (label : Label) : Type 0 where
  pub number : ℕ
  pub slot : Slot
  pub begun : 0 < n
  pub later : n < number
  pub is_slot : slice_get store.slots number ≡ Some slot
  pub better : DominatesWithin slot.label label asked.forced (reach_of asked label)

-- slot n is done with, where there is one
abbrev pub IsDoneAt : Asked → LabelStore → ℕ → Type 0
IsDoneAt asked store n =
    (entry : Entry) → slice_get (entries_of store.slots) n ≡ Some entry →
    IsDone asked.case.now asked.driver asked.pairs.now asked.prices.now store.known (entries_of store.slots) n entry

-- each slot of the minute is done with
abbrev pub IsMinuteDone : Asked → LabelStore → ℕ → Type 0
IsMinuteDone asked store minute =
    (n : ℕ) (slot : Slot) → slice_get store.slots n ≡ Some slot → slot.label.clock.at ≡ minute → IsDoneAt asked store n
