-- The chunks that are left are those that the seat holds.
use Rattle.std.proofs.Common.{◌≡◌, ◌+◌, ◌/◌, length, reverse}
use Rattle.duty_pricing.proofs.stores.LabelStore.give_chunks.Given as goal

abbrev pub invariant-giving : goal.invariant-giving
invariant-giving l = record {
  name : l.seat.name ≡ l.fn.seat.name;
  drawn : l.seat.drawn ≡ l.fn.seat.drawn;
  held : l.seat.held ≡ reverse l.self.numbers;
  needed : length l.self.numbers ≡ (length l.self.slots + 1023) / 1024;
  minutes : l.self.minutes ≡ l.fn.self.minutes;
  cells : l.self.cells ≡ l.fn.self.cells;
  steps : l.self.steps ≡ l.fn.self.steps;
}

abbrev pub decreases-giving : goal.decreases-giving
decreases-giving l = length l.self.numbers
