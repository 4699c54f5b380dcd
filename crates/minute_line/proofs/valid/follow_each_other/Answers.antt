use Rattle.std.proofs.Common.{rules}
use Rattle.std.proofs.Math.ListN.{drop_of_length-le}
use Rattle.minute_line.specs.declared.marks.Mark.TheVariants.{Drive}
use Rattle.minute_line.specs.declared.marks.Kind.TheVariants.{Plain}
use Rattle.minute_line.proofs.Walks.{left_at, follows_stop, follows_on}
use Rattle.minute_line.proofs.valid.follow_each_other.Goals as goal

pub returns-then-not-follows : goal.returns-then-not-follows
returns-then-not-follows c = follows_stop _ _ _ c.loop-stint.off _ (left_at c.args.stints.now c.loop-stint.stint-index (record { mark = Drive; minutes = 0; kind = Plain }) c.loop-stint-test.true) c.loop-stint.invariant (search rules)

pub loop-stint-preserved : goal.loop-stint-preserved
loop-stint-preserved c = rw c.is_off-off.ensures (follows_on _ _ _ c.loop-stint.off _ (left_at c.args.stints.now c.loop-stint.stint-index _ c.loop-stint-test.true) c.loop-stint.invariant (search rules))

pub returns : goal.returns
returns c = rw (drop_of_length-le c.args.stints.now c.loop-stint-test.false) at c.loop-stint.invariant
