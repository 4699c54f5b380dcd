use Rattle.std.proofs.Common.{◌≡◌, arith, length}
use Rattle.price_master.proofs.DriverBids.{bid-right}
use Rattle.price_master.proofs.bidding.bid_of.Goals as goal

pub returns-clause-value : goal.returns-clause-value
returns-clause-value c =
    let all : c.loop-order.order ≡ length c.args.case.now.week.orders = omega (arith, c.loop-order-test.false, c.loop-order.auto.order-end, c.len-order-end.ensures) in
    bid-right c.args.case.now c.args.driver c.args.place c.loop-order.served c.loop-order.worth c.saturating_sub.result c.loop-order.order c.args.entry.now c.requires.entry.lawful all
    c.loop-order.invariant.bits c.loop-order.invariant.worth c.saturating_sub.ensures
