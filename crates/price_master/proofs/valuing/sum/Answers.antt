use Rattle.std.proofs.Common.{◌∙◌, get_or, pos, to_z, w64, refl, arith}
use Rattle.std.proofs.lemmas.Int.{ints}
use Rattle.price_master.proofs.Limits.{added, added-fits, modest-at, sum-more}
use Rattle.price_master.proofs.valuing.sum.Goals as goal

pub overflow_add-cents : goal.overflow_add-cents
overflow_add-cents c =
    let m = modest-at c.args.least.now c.loop-value.value-index (pos 0) c.requires.modest c.loop-value-test.true in
    added-fits (to_z w64 c.loop-value.cents-bits) (get_or c.args.least.now c.loop-value.value-index (pos 0)) c.loop-value.value-index
    c.loop-value.invariant.low c.loop-value.invariant.high (omega arith) m

pub loop-value-preserved : goal.loop-value-preserved
loop-value-preserved c =
    let m = modest-at c.args.least.now c.loop-value.value-index (pos 0) c.requires.modest c.loop-value-test.true in
    let is = added (to_z w64 c.loop-value.cents-bits) (get_or c.args.least.now c.loop-value.value-index (pos 0)) c.loop-value.value-index
    c.loop-value.invariant.low c.loop-value.invariant.high (omega arith) m in
    let low = m.low in
    let high = m.high in record {
      so_far = is ∙ sum-more c.args.least.now c.loop-value.value-index (to_z w64 c.loop-value.cents-bits) (get_or c.args.least.now c.loop-value.value-index (pos 0)) (pos 0)
          c.loop-value.invariant.so_far c.loop-value-test.true refl;
      low = omega (arith, ints, is, c.loop-value.invariant.low);
      high = omega (arith, ints, is, c.loop-value.invariant.high);
    }
