-- The stays so far were tried.
use Rattle.std.proofs.Common.{◌<◌, ℕ, get_or}
use Rattle.duty_pricing.specs.Listing.{plain_stay}
use Rattle.duty_pricing.specs.Searching.{GoesOn, HasTried, IsOpen}
use Rattle.duty_pricing.proofs.stores.LabelStore.try_plain.Given as goal

abbrev pub invariant-loop-off : goal.invariant-loop-off
invariant-loop-off l = record {
  open_still : IsOpen l.asked l.seat l.self;
  on : GoesOn l.asked l.number l.from l.fn.self l.self;
  tried : (k : ℕ) → k < l.off-index → HasTried l.asked l.self l.number
      (record { stay = plain_stay l.asked.case.now.week l.from.clock.at l.act (get_or l.off-items k 0); act = l.act });
}
