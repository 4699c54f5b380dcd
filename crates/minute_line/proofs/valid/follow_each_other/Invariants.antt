use Rattle.std.proofs.Common.{◌≡◌, drop}
use Rattle.minute_line.specs.Stints.{each_follows}
use Rattle.minute_line.proofs.valid.follow_each_other.Given as goal

abbrev pub invariant-loop-stint : goal.invariant-loop-stint
invariant-loop-stint l = each_follows l.off (drop l.stint-index l.stints) ≡ each_follows l.fn.after_off l.stints
