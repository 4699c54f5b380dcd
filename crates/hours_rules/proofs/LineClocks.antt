-- The clock of a line, by its fields.
use Rattle.std.proofs.Common.{length, refl, min, pos, ◌-ℤ◌}
use Rattle.minute_line.specs.Minutes.{Minutes}
use Rattle.minute_line.specs.Marks.{is_drive, is_working}
use Rattle.hours_rules.specs.declared.clocks.Clock.{Clock}
use Rattle.hours_rules.specs.Counts.{count, open_run, has_run, work_day_of, since_weekly, since_pause, period_of, ends_reduced, times, off_in_runs, last_weekly}
use Rattle.hours_rules.specs.Rules.{Past, whole, long_days_of, debt_of}
use Rattle.hours_rules.specs.Standing.{Stands}

-- the clock of a line
abbrev pub clock_of : Past → Minutes → Clock
clock_of past week = record {
  at = length week;
  off = open_run (whole past week);
  day_from = pos (length week) -ℤ pos (length (work_day_of (whole past week)));
  rest_from = pos (length week) -ℤ pos (length (since_weekly (whole past week)));
  period = count is_drive (period_of (whole past week));
  half = has_run 15 (period_of (whole past week));
  drive_day = count is_drive (work_day_of (whole past week));
  long_days = long_days_of past.minutes week;
  split = has_run 180 (work_day_of (whole past week));
  reduced = times ends_reduced (since_weekly (whole past week));
  prev_weekly = last_weekly past.prev_weekly (whole past week);
  work_run = count is_working (since_pause (whole past week));
  work_day = count is_working (work_day_of (whole past week));
  pause_day = min 45 (off_in_runs 15 (work_day_of (whole past week)));
  drive_week = count is_drive week;
  work_week = count is_working week;
  prev_drive = past.prev_drive;
  work_before = past.work_before;
  owed = (debt_of past week).owed;
  due = (debt_of past week).due;
}

pub clock-stands : (past : Past) (week : Minutes) → Stands (clock_of past week) past week
clock-stands past week = record {
  at = refl;
  off = refl;
  day_from = refl;
  rest_from = refl;
  period = refl;
  half = refl;
  drive_day = refl;
  long_days = refl;
  split = refl;
  reduced = refl;
  prev_weekly = refl;
  work_run = refl;
  work_day = refl;
  pause_day = refl;
  drive_week = refl;
  work_week = refl;
  prev_drive = refl;
  work_before = refl;
  owed = refl;
  due = refl;
}
