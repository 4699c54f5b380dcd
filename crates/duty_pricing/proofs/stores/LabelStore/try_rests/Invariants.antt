-- The rests until the turns so far were tried.
use Rattle.std.proofs.Common.{◌<◌, ◌≤◌, ◌*◌, ℕ}
use Rattle.duty_pricing.specs.Listing.{rest_stay}
use Rattle.duty_pricing.specs.Searching.{GoesOn, HasTried, IsOpen}
use Rattle.duty_pricing.proofs.stores.LabelStore.try_rests.Given as goal

abbrev pub invariant-loop-turn : goal.invariant-loop-turn
invariant-loop-turn l = record {
  open_still : IsOpen l.asked l.seat l.self;
  on : GoesOn l.asked l.number l.from l.fn.self l.self;
  tried : (turn : ℕ) → turn < l.turn → l.from.clock.at ≤ turn * l.grid → HasTried l.asked l.self l.number
      (record { stay = rest_stay l.from.clock.at l.kind (turn * l.grid); act = l.act });
}
