use Rattle.std.proofs.Common.{◌≡◌, take, length}
use Rattle.driver_history.proofs.rests.Worked.sixteen_weeks.Given as goal

abbrev pub invariant-loop-place : goal.invariant-loop-place
invariant-loop-place l = record {
  long : length l.weeks ≡ 16;
  same : take l.place l.weeks ≡ take l.place l.self.weeks;
}
