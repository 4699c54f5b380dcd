use Rattle.std.proofs.Common.{arith, refl}
use Rattle.std.proofs.lemmas.Int.{ints}
use Rattle.hours_rules.proofs.Same.{clock_ext}
use Rattle.hours_rules.proofs.judging.to_monday.Goals as goal

pub returns : goal.returns
returns c = clock_ext _ _ (record {
  at = refl;
  off = refl;
  day_from = omega (arith, ints);
  rest_from = omega (arith, ints);
  period = refl;
  half = refl;
  drive_day = refl;
  long_days = refl;
  split = refl;
  reduced = refl;
  prev_weekly = refl;
  work_run = refl;
  work_day = refl;
  pause_day = refl;
  drive_week = refl;
  work_week = refl;
  prev_drive = refl;
  work_before = refl;
  owed = refl;
  due = omega (arith, ints);
})
