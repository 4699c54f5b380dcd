-- What the fields of a clock are the numbers of.
use Rattle.std.specs.Prelude.{◌≡◌, ◌+◌, ◌-◌, ◌*◌, ◌≤◌, length, pos, ◌-ℤ◌, ◌≤ℤ◌, min}
use Rattle.minute_line.specs.declared.lines.TheConstants.{PAST_LIMIT, WEEK_MINUTES}
use Rattle.minute_line.specs.declared.debts.TheConstants.{REGULAR_WEEKLY_REST, WEEKLY_REST}
use Rattle.minute_line.specs.Minutes.{Minutes}
use Rattle.hours_rules.specs.declared.thresholds.TheConstants.{FIRST_PART, SPLIT_REST, PAUSE, LONG_PAUSES}
use Rattle.hours_rules.specs.declared.clocks.Clock.{Clock}
use Rattle.minute_line.specs.Marks.{is_drive, is_working}
use Rattle.hours_rules.specs.Counts.{count, open_run, has_run, work_day_of, since_weekly, since_pause, period_of, ends_reduced, times, off_in_runs, last_weekly}
use Rattle.hours_rules.specs.Debts.{Debt}
use Rattle.hours_rules.specs.Rules.{Past, whole, long_days_of, debt_of}

-- the clock stands for a line that is cut after `week`: each field is what its name says, counted over that line
pub record Stands (clock : Clock) (past : Past) (week : Minutes) : Type 0 where
  pub at : clock.at ≡ length week
  pub off : clock.off ≡ open_run (whole past week)
  pub day_from : clock.day_from ≡ pos (length week) -ℤ pos (length (work_day_of (whole past week)))
  pub rest_from : clock.rest_from ≡ pos (length week) -ℤ pos (length (since_weekly (whole past week)))
  pub period : clock.period ≡ count is_drive (period_of (whole past week))
  pub half : clock.half ≡ has_run FIRST_PART (period_of (whole past week))
  pub drive_day : clock.drive_day ≡ count is_drive (work_day_of (whole past week))
  pub long_days : clock.long_days ≡ long_days_of past.minutes week
  pub split : clock.split ≡ has_run SPLIT_REST (work_day_of (whole past week))
  pub reduced : clock.reduced ≡ times ends_reduced (since_weekly (whole past week))
  pub prev_weekly : clock.prev_weekly ≡ last_weekly past.prev_weekly (whole past week)
  pub work_run : clock.work_run ≡ count is_working (since_pause (whole past week))
  pub work_day : clock.work_day ≡ count is_working (work_day_of (whole past week))
  pub pause_day : clock.pause_day ≡ min LONG_PAUSES (off_in_runs PAUSE (work_day_of (whole past week)))
  pub drive_week : clock.drive_week ≡ count is_drive week
  pub work_week : clock.work_week ≡ count is_working week
  pub prev_drive : clock.prev_drive ≡ past.prev_drive
  pub work_before : clock.work_before ≡ past.work_before
  pub owed : clock.owed ≡ (debt_of past week).owed
  pub due : clock.due ≡ (debt_of past week).due

-- the debt is one that a history can bring along
pub record IsCarried (debt : Debt) : Type 0 where
  pub owed : debt.owed ≤ REGULAR_WEEKLY_REST - WEEKLY_REST
  pub not_before : pos 0 ≤ℤ debt.due
  pub due : debt.due ≤ℤ pos (3 * WEEK_MINUTES)

-- the clock stands for some line, of a past and a week of the lengths that these may have
pub record IsClock (clock : Clock) : Type 0 where
  pub past : Past
  pub week : Minutes
  pub stands : Stands clock past week
  pub past_minutes : length past.minutes ≤ PAST_LIMIT + PAST_LIMIT
  pub week_minutes : length week ≤ WEEK_MINUTES
  pub prev_drive : past.prev_drive ≤ WEEK_MINUTES
  pub work_before : past.work_before ≤ 16 * WEEK_MINUTES
  pub debt : IsCarried past.debt
