-- Each order is tried.
use Rattle.std.proofs.Common.{below_more, arith}
use Rattle.duty_pricing.proofs.Going.{goes-itself, goes-further, tried-stays}
use Rattle.duty_pricing.proofs.stores.LabelStore.try_orders.Goals as goal

pub loop-order-init : goal.loop-order-init
loop-order-init c = record {
  open_still = c.requires.open;
  on = goes-itself c.args.asked.now c.args.number c.args.from.now c.args.self.now c.requires.search c.requires.from;
  tried = λ k l. absurd (omega arith);
}

pub returns-then-not-try_order-clause-on : goal.returns-then-not-try_order-clause-on
returns-then-not-try_order-clause-on c =
    goes-further c.args.asked.now c.args.number c.args.from.now c.args.self.now c.loop-order.self c.try_order.new.self c.loop-order.invariant.on c.try_order.ensures.on

pub loop-order-preserved : goal.loop-order-preserved
loop-order-preserved c = record {
  open_still = c.try_order.ensures.open c.if-not-try_order.false;
  on = goes-further c.args.asked.now c.args.number c.args.from.now c.args.self.now c.loop-order.self c.try_order.new.self c.loop-order.invariant.on c.try_order.ensures.on;
  tried = below_more _ _
      (λ k l at stay. tried-stays c.args.asked.now c.args.number c.args.from.now c.loop-order.self c.try_order.new.self _ c.loop-order.invariant.on.still c.try_order.ensures.on.grows
      (c.loop-order.invariant.tried k l at stay))
      (c.try_order.ensures.tried c.if-not-try_order.false);
}

pub returns-clause-tried : goal.returns-clause-tried
returns-clause-tried c = λ _ order l. c.loop-order.invariant.tried order (omega (arith, c.loop-order-test.false, c.len-order-end.ensures))
