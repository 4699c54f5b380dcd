-- The slots of the minutes so far are done with.
use Rattle.std.proofs.Common.{◌≡◌, ◌<◌, ℕ, Some, slice_get}
use Rattle.duty_pricing.specs.declared.slots.Slot.{Slot}
use Rattle.duty_pricing.specs.Searching.{IsOpen, IsSearch}
use Rattle.duty_pricing.specs.Visiting.{IsDoneAt}
use Rattle.duty_pricing.proofs.stores.LabelStore.exhaust.Given as goal

abbrev pub invariant-loop-minute : goal.invariant-loop-minute
invariant-loop-minute l = record {
  open_still : IsOpen l.asked l.seat l.self;
  search : IsSearch l.asked l.minute l.self;
  done : (n : ℕ) (slot : Slot) → slice_get l.self.slots n ≡ Some slot → slot.label.clock.at < l.minute → IsDoneAt l.asked l.self n;
}
