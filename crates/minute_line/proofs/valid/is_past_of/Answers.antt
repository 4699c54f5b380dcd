use Rattle.std.proofs.Common.{rules}
use Rattle.std.proofs.Math.ListN.{drop_of_length-le}
use Rattle.minute_line.specs.declared.marks.Mark.TheVariants.{Drive}
use Rattle.minute_line.specs.declared.marks.Kind.TheVariants.{Plain}
use Rattle.minute_line.proofs.Walks.{left_at, past_stop, past_on}
use Rattle.minute_line.proofs.valid.is_past_of.Goals as goal

pub returns-then-not-lies_in_past : goal.returns-then-not-lies_in_past
returns-then-not-lies_in_past c = past_stop _ _ _ c.loop-stint.after_off _ (left_at c.args.stints.now c.loop-stint.stint-index (record { mark = Drive; minutes = 0; kind = Plain }) c.loop-stint-test.true) c.loop-stint.invariant (search rules)

pub loop-stint-preserved : goal.loop-stint-preserved
loop-stint-preserved c = rw c.is_off-after_off.ensures (past_on _ _ _ c.loop-stint.after_off _ (left_at c.args.stints.now c.loop-stint.stint-index _ c.loop-stint-test.true) c.loop-stint.invariant (search rules))

pub returns : goal.returns
returns c = rw (drop_of_length-le c.args.stints.now c.loop-stint-test.false) at c.loop-stint.invariant
