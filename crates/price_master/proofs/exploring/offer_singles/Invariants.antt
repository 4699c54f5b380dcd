use Rattle.std.proofs.Common.{◌≡◌, ℕ, ◌<◌, ◌≤◌, Some, slice_get}
use Rattle.price_master.specs.declared.bidding.Bid.{Bid}
use Rattle.price_master.specs.Bids.{AreChosen}
use Rattle.price_master.proofs.exploring.offer_singles.Given as goal

abbrev pub invariant-loop-bid : goal.invariant-loop-bid
invariant-loop-bid l = record {
  found : AreChosen l.bids l.found.places l.found.saving;
  grows : l.fn.found.saving ≤ l.found.saving;
  beats : (k : ℕ) (bid : Bid) → k < l.bid-index → slice_get l.bid-items k ≡ Some bid → bid.saving ≤ l.found.saving;
  turns : (l.found.turns ≡ l.fn.found.turns) × (l.found.is_cut ≡ l.fn.found.is_cut);
}
