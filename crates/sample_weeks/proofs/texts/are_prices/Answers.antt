-- Each order was asked.
use borrow.Author.Count.{below_more}
use Rattle.std.proofs.Common.{ℕ, ◌≤◌, arith, rules}
use Rattle.duty_plan.specs.Duties.{price_of}
use Rattle.duty_plan.specs.Values.{price_at}
use Rattle.sample_weeks.proofs.texts.are_prices.Goals as goal

pub returns : goal.returns
returns c = λ _. record {
  orders = search arith;
  most = λ order low. c.loop-order.invariant order (omega (arith, low));
}

pub loop-order-preserved : goal.loop-order-preserved
loop-order-preserved c =
    below_more (λ (order : ℕ). price_at c.args.prices.now order ≤ price_of c.args.week.now order) c.loop-order.order c.loop-order.invariant
    (c.is_price.ensures (search rules))
