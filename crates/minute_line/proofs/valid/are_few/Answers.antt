use Rattle.std.proofs.Common.{◌≡◌, ◌∙◌, sym, arith, nat_le, true}
use Rattle.std.proofs.Math.ListN.{drop_of_length-le}
use Rattle.minute_line.proofs.Walks.{left_at, few_stop, few_on}
use Rattle.minute_line.proofs.valid.are_few.Goals as goal

pub returns-then-stint-left : goal.returns-then-stint-left
returns-then-stint-left c = few_stop _ _ _ _ _ (left_at c.args.stints.now c.loop-stint.stint-index _ c.loop-stint-test.true) c.loop-stint.invariant c.if-stint-left.true

pub loop-stint-preserved : goal.loop-stint-preserved
loop-stint-preserved c = few_on _ _ _ _ _ (left_at c.args.stints.now c.loop-stint.stint-index _ c.loop-stint-test.true) c.loop-stint.invariant c.if-stint-left.false

pub returns : goal.returns
returns c =
    let t : nat_le 0 c.loop-stint.left ≡ true = grind arith in
    sym t ∙ rw (drop_of_length-le c.args.stints.now c.loop-stint-test.false) at c.loop-stint.invariant
