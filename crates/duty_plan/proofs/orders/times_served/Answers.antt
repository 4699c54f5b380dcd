use Rattle.std.proofs.Common.{refl, arith, ap, ◌∙◌, List, reverse}
use Rattle.std.proofs.lemmas.Option.{slice_get_read}
use Rattle.duty_plan.specs.declared.duties.Step.{Step}
use Rattle.duty_plan.specs.PartialDuties.{serves}
use Rattle.duty_plan.proofs.Carrying.{carried-more, served-times, byte-cond}
use Rattle.duty_plan.proofs.orders.times_served.Goals as goal

pub loop-duty-preserved : goal.loop-duty-preserved
loop-duty-preserved c =
    let byte = byte-cond c.serves.result c.from-count.result c.from-count.ensures in record {
      count =
          carried-more c.args.order c.args.duties.now c.loop-duty.duty-index c.loop-duty.count c.from-count.result c.duty-item.result c.duty-item.result
          c.loop-duty.invariant.count
          (served-times c.args.order c.duty-item.result c.serves.result c.from-count.result (c.serves.ensures ∙ ap (λ (x : List Step). serves c.args.order (reverse x)) c.as_slice.ensures) byte.0
          (c.requires.once c.loop-duty.duty-index c.duty-item.result (slice_get_read c.args.duties.now _ c.loop-duty.duty-index c.duty-item.result refl c.loop-duty-test.true c.duty-item.is) c.args.order))
          c.loop-duty-test.true c.duty-item.is;
      few = omega (arith, c.loop-duty.invariant.few, byte.1);
    }
