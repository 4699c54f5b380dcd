use Rattle.std.proofs.Common.{◌≡◌, ℕ, List, length, Some, slice_get}
use Rattle.price_master.specs.declared.bidding.Bid.{Bid}
use Rattle.price_master.specs.declared.pooling.Pooled.{Pooled}
use Rattle.price_master.specs.Bids.{AreBids}
use Rattle.price_master.proofs.bidding.bids_of.Given as goal

abbrev pub invariant-loop-driver : goal.invariant-loop-driver
invariant-loop-driver l = record {
  as_many : length l.bids ≡ l.driver;
  each : (d : ℕ) (pooled : List Pooled) (of_driver : List Bid) → slice_get l.pool d ≡ Some pooled → slice_get l.bids d ≡ Some of_driver →
      AreBids l.case.week pooled of_driver;
}
