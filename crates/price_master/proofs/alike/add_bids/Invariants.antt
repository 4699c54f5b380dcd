use Rattle.price_master.proofs.Listing.{AddsSoFar}
use Rattle.price_master.proofs.alike.add_bids.Given as goal

abbrev pub invariant-loop-number : goal.invariant-loop-number
invariant-loop-number l = AddsSoFar l.class l.number l.bids l.fn.list.items l.list.items
