-- How large the numbers of a clock may be. The contracts of the private functions cite this. A line has at most 20,160 minutes of
-- stints, 20,160 open ones and a week's 10,080: 50,400, for which the contracts say 60,000, 80,000 or 100,000 minutes, the more
-- the later it is in a call, so that what is added in between fits as well. Sums of sixteen weeks are at most 161,280 minutes, for
-- which they say 200,000.
use Rattle.std.specs.Prelude.{ℕ, ◌+◌, ◌*◌, ◌≤◌, pos, ◌+ℤ◌, ◌≤ℤ◌}
use Rattle.minute_line.specs.declared.lines.TheConstants.{WEEK_MINUTES}
use Rattle.minute_line.specs.declared.debts.TheConstants.{REGULAR_WEEKLY_REST}
use Rattle.hours_rules.specs.declared.thresholds.TheConstants.{LONG_PAUSES}
use Rattle.hours_rules.specs.declared.clocks.Clock.{Clock}

-- each number is one that a line of at most n minutes can have
pub record IsWithin (n : ℕ) (c : Clock) : Type 0 where
  pub at : c.at ≤ n
  pub off : c.off ≤ n
  pub day_from : c.day_from ≤ℤ pos c.at
  pub day_long : pos c.at ≤ℤ (c.day_from +ℤ pos n)
  pub rest_from : c.rest_from ≤ℤ pos c.at
  pub rest_long : pos c.at ≤ℤ (c.rest_from +ℤ pos n)
  pub period : c.period ≤ n
  pub drive_day : c.drive_day ≤ n
  pub long_days : c.long_days ≤ n
  pub reduced : c.reduced ≤ n
  pub work_run : c.work_run ≤ n
  pub work_day : c.work_day ≤ n
  pub pause_day : c.pause_day ≤ LONG_PAUSES
  pub drive_week : c.drive_week ≤ n
  pub work_week : c.work_week ≤ n
  pub prev_drive : c.prev_drive ≤ 200000
  pub work_before : c.work_before ≤ 200000
  pub owed : c.owed ≤ REGULAR_WEEKLY_REST
  pub due : c.due ≤ℤ pos (n + 5 * WEEK_MINUTES)
  pub due_low : pos 0 ≤ℤ (c.due +ℤ pos n)
