-- The steps so far, and then those of the slot that is reached.
use Rattle.std.proofs.Common.{◌≡◌, ◌<◌, ◌++◌, length}
use Rattle.duty_pricing.specs.Slots.{entries_of, partial_at}
use Rattle.duty_pricing.proofs.steps.trace.Given as goal

abbrev pub invariant-loop-at : goal.invariant-loop-at
invariant-loop-at l = record {
  low : l.at < length l.slots;
  path : l.steps ++ partial_at (entries_of l.slots) l.at ≡ partial_at (entries_of l.slots) l.number;
}

abbrev pub decreases-loop-at : goal.decreases-loop-at
decreases-loop-at l = l.at
