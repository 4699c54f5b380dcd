use Rattle.std.proofs.Common.{◌≡◌, ◌+◌, take}
use Rattle.minute_line.specs.Minutes.{total_of}
use Rattle.hours_rules.proofs.tests.fit.Given as goal

abbrev pub invariant-loop-stint : goal.invariant-loop-stint
invariant-loop-stint l = l.left + total_of (take l.stint-index l.stints) ≡ 10080
