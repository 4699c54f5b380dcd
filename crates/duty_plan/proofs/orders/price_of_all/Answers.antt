use Rattle.std.proofs.Common.{refl, arith}
use Rattle.duty_plan.specs.Duties.{price_of}
use Rattle.duty_plan.proofs.Carrying.{worth-more}
use Rattle.duty_plan.proofs.orders.price_of_all.Goals as goal

pub loop-order-preserved : goal.loop-order-preserved
loop-order-preserved c = record {
  worth_so_far =
      worth-more (price_of c.args.week.now) c.args.out.now c.loop-order.order-index c.loop-order.cents c.price-cents.result _ _
      c.loop-order.invariant.worth_so_far c.price-cents.ensures.price c.loop-order-test.true refl;
  bound = omega (arith, c.loop-order.invariant.bound, c.price-cents.ensures.bound);
}
