use Rattle.std.proofs.Common.{sym, refl, arith}
use Rattle.duty_plan.proofs.Carrying.{times-more, byte-cond}
use Rattle.duty_plan.proofs.orders.times_out.Goals as goal

pub loop-other-preserved : goal.loop-other-preserved
loop-other-preserved c =
    let byte = byte-cond _ c.from-count.result c.from-count.ensures in record {
      count =
          times-more c.args.order c.args.out.now c.loop-other.other-index c.loop-other.count c.from-count.result _ _
          c.loop-other.invariant.count (sym byte.0) c.loop-other-test.true refl;
      few = omega (arith, c.loop-other.invariant.few, byte.1);
    }
