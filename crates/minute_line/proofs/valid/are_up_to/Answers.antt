use Rattle.std.proofs.Math.ListN.{drop_of_length-le}
use Rattle.minute_line.proofs.Walks.{left_at, up_to_stop, up_to_on}
use Rattle.minute_line.proofs.valid.are_up_to.Goals as goal

pub returns-then-number-most : goal.returns-then-number-most
returns-then-number-most c = up_to_stop c.args.most _ _ _ _ (left_at c.args.numbers.now c.loop-number.number-index 0 c.loop-number-test.true) c.loop-number.invariant c.if-number-most.true

pub loop-number-preserved : goal.loop-number-preserved
loop-number-preserved c = up_to_on c.args.most _ _ _ _ (left_at c.args.numbers.now c.loop-number.number-index 0 c.loop-number-test.true) c.loop-number.invariant c.if-number-most.false

pub returns : goal.returns
returns c = rw (drop_of_length-le c.args.numbers.now c.loop-number-test.false) at c.loop-number.invariant
