use Rattle.std.proofs.Common.{◌≡◌, ℕ, ◌<◌, false, List, Some, slice_get}
use Rattle.price_master.specs.declared.bidding.Bid.{Bid}
use Rattle.price_master.specs.Bids.{AreChosen, IsMostOf}
use Rattle.price_master.proofs.exploring.best_single.Given as goal

abbrev pub invariant-loop-driver : goal.invariant-loop-driver
invariant-loop-driver l = record {
  found : AreChosen l.bids l.found.places l.found.saving;
  beats : (d : ℕ) (of_driver : List Bid) → d < l.driver → slice_get l.bids d ≡ Some of_driver → IsMostOf of_driver l.found.saving;
  turns : (l.found.turns ≡ 0) × (l.found.is_cut ≡ false);
}
