use Rattle.std.proofs.Common.{◌≡◌, drop, nat_le}
use Rattle.minute_line.specs.Minutes.{total_of}
use Rattle.minute_line.proofs.valid.are_few.Given as goal

abbrev pub invariant-loop-stint : goal.invariant-loop-stint
invariant-loop-stint l = nat_le (total_of (drop l.stint-index l.stints)) l.left ≡ nat_le (total_of l.stints) 20160
