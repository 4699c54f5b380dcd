use Rattle.std.proofs.Common.{◌≡◌, take, drop, fold}
use Rattle.minute_line.specs.Minutes.{total_of}
use Rattle.driver_history.specs.Owing.{owe_stint, IsShort}
use Rattle.driver_history.proofs.owing.Owing.carry_all.Given as goal

abbrev pub invariant-loop-stint : goal.invariant-loop-stint
invariant-loop-stint l = record {
  owing : l.owing ≡ fold owe_stint l.fn.self (take l.stint-index l.stints);
  short : IsShort l.owing (total_of (drop l.stint-index l.stints));
}
