use Rattle.std.proofs.Common.{◌≡◌, ◌+◌, ◌≤◌, take, drop, fold}
use Rattle.minute_line.specs.Minutes.{total_of}
use Rattle.driver_history.specs.Carrying.{carry}
use Rattle.driver_history.specs.Keeping.{seen, held}
use Rattle.driver_history.proofs.carrying.SinceWeeklyRest.carry_all.Given as goal

abbrev pub invariant-loop-stint : goal.invariant-loop-stint
invariant-loop-stint l = record {
  left : seen l.left ≡ fold carry (seen l.fn.self) (take l.stint-index l.stints);
  small : held (seen l.left) + total_of (drop l.stint-index l.stints) ≤ 4000000;
}
