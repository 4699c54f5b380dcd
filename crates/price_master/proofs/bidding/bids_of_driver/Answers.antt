use Rattle.std.proofs.Common.{refl, ◌∙◌}
use Rattle.price_master.proofs.Lookups.{element-at}
use Rattle.price_master.proofs.DriverBids.{bids-done, bids-more, bids-skipped}
use Rattle.price_master.proofs.bidding.bids_of_driver.Goals as goal
use Rattle.price_master.proofs.bidding.bids_of_driver.Goals.{then-bid-gt0+in_ok-push, else-bid-gt0}

pub loop-place-preserved : goal.loop-place-preserved
loop-place-preserved c =
    let there = element-at c.args.pooled.now c.loop-place.place c.index-pooled-place.result c.index-pooled-place.result c.loop-place-test.true c.index-pooled-place.is refl in
    elim c.if-bid-gt0.branch [
      | then-bid-gt0+in_ok-push w ↦ rw w.bids-is (bids-more c.args.case.now.week c.args.pooled.now c.loop-place.place c.loop-place.bids.items w.push.new.self.items
          c.index-pooled-place.result c.bid_of-bid.result c.loop-place.invariant there c.bid_of-bid.ensures.value w.if-bid-gt0.true c.bid_of-bid.ensures.small
          w.in_ok-push.ensures.items)
      | else-bid-gt0 w ↦ rw w.bids-is (bids-skipped c.args.case.now.week c.args.pooled.now c.loop-place.place c.loop-place.bids.items c.index-pooled-place.result c.bid_of-bid.result
          c.loop-place.invariant there c.bid_of-bid.ensures.value w.if-bid-gt0.false)
    ]

pub returns : goal.returns
returns c =
    bids-done c.args.case.now.week c.args.pooled.now c.loop-place.place c.loop-place.bids.items c.from_vec.result c.loop-place.invariant c.loop-place-test.false
    (c.from_vec.ensures ∙ c.in_ok-push-2.ensures.items)
