-- Each order was asked.
use borrow.Author.Count.{below_more}
use Rattle.std.proofs.Common.{ℕ, reverse, arith, rules}
use Rattle.duty_beam.specs.Finding.{KeepsPair}
use Rattle.duty_beam.proofs.confirming.is_inside.Goals as goal

pub returns : goal.returns
returns c = λ _. record {
  forced = λ order low f. (c.loop-order.invariant order (omega (arith, low))).forced f;
  barred = λ order low b. (c.loop-order.invariant order (omega (arith, low))).barred b;
}

pub loop-order-preserved : goal.loop-order-preserved
loop-order-preserved c =
    below_more (λ (order : ℕ). KeepsPair c.args.pairs.now c.args.driver (reverse c.args.steps.now) order) c.loop-order.order c.loop-order.invariant
    (c.keeps_pair.ensures (search rules))
