use Rattle.std.proofs.Common.{◌≡◌, drop, false}
use Rattle.minute_line.specs.Stints.{is_past}
use Rattle.minute_line.proofs.valid.is_past_of.Given as goal

abbrev pub invariant-loop-stint : goal.invariant-loop-stint
invariant-loop-stint l = is_past l.after_off (drop l.stint-index l.stints) ≡ is_past false l.stints
