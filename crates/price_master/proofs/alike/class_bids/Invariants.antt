use Rattle.price_master.proofs.Listing.{AreListedTo}
use Rattle.price_master.proofs.alike.class_bids.Given as goal

abbrev pub invariant-loop-driver : goal.invariant-loop-driver
invariant-loop-driver l = AreListedTo l.bids l.classes l.driver l.list.items
