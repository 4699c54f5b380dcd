use Rattle.std.proofs.Common.{List, subst, sym}
use Rattle.price_master.proofs.Lookups.{element-at}
use Rattle.price_master.specs.declared.alike.ClassBid.{ClassBid}
use Rattle.price_master.specs.Classes.{AreClassBids}
use Rattle.price_master.proofs.Listing.{listed-done, listed-more, listed-skip}
use Rattle.price_master.proofs.alike.class_bids.Goals as goal
use Rattle.price_master.proofs.alike.class_bids.Goals.{then-classes-driver+in_ok-add_bids, else-classes-driver}

pub loop-driver-preserved : goal.loop-driver-preserved
loop-driver-preserved c =
    elim c.if-classes-driver.branch [
      | then-classes-driver+in_ok-add_bids w ↦ rw w.list-is (
          let at = element-at c.args.bids.now c.loop-driver.driver w.index-bids-driver.result w.as_slice.result.now c.loop-driver-test.true w.index-bids-driver.is w.as_slice.ensures in
          listed-more c.args.bids.now c.args.classes.now c.loop-driver.driver c.loop-driver.list.items w.add_bids.new.list.items w.as_slice.result.now c.loop-driver.invariant at
          w.in_ok-add_bids.ensures)
      | else-classes-driver w ↦ rw w.list-is (listed-skip c.args.bids.now c.args.classes.now c.loop-driver.driver c.loop-driver.list.items c.loop-driver.invariant w.if-classes-driver.false)
    ]

pub returns : goal.returns
returns c =
    subst (λ (l : List ClassBid). AreClassBids c.args.bids.now c.args.classes.now l) (sym c.from_vec.ensures)
    (listed-done c.args.bids.now c.args.classes.now c.loop-driver.driver c.loop-driver.list.items c.requires.classes c.loop-driver.invariant c.loop-driver-test.false)
