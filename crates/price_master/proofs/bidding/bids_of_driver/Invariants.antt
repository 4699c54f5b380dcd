use Rattle.price_master.proofs.DriverBids.{AreBidsSoFar}
use Rattle.price_master.proofs.bidding.bids_of_driver.Given as goal

abbrev pub invariant-loop-place : goal.invariant-loop-place
invariant-loop-place l = AreBidsSoFar l.case.week l.pooled l.place l.bids.items
