-- When one clock is at least as good as another. There are three orders, each for one use. Rules are judged minute by minute, so
-- `DominatesAtMinute` compares two clocks at one minute, with the same open run: it lasts whatever is added (`OrderLasts`). A
-- search meets its clocks after acts, mostly at different minutes: `IsEarlier` is such a pair, which Ready minutes bring to one
-- minute (`ReadyCatchesUp`). `ClockDominates` is what is computed: it reads two clocks alone, and leaves out what is the same for
-- the clocks of one driver after acts, which is last week, the sixteen weeks, and no open run.
use Rattle.std.specs.Prelude.{◌≡◌, ◌≤◌, ◌<◌, ◌+◌, true, ◌≤ℤ◌, length, ◌++◌, None, pos, ◌-ℤ◌, ◌-◌, ◌∷◌}
use Rattle.minute_line.specs.declared.marks.Mark.TheVariants.{Ready}
use Rattle.minute_line.specs.declared.marks.Kind.TheVariants.{Plain}
use Rattle.minute_line.specs.Marks.{is_duty}
use Rattle.minute_line.specs.Minutes.{Minute, Minutes, stretch}
use Rattle.minute_line.specs.declared.debts.TheConstants.{REGULAR_WEEKLY_REST}
use Rattle.minute_line.specs.declared.lines.TheConstants.{WEEK_MINUTES}
use Rattle.hours_rules.specs.declared.thresholds.TheConstants.{DAY_LENGTH, WEEKLY_SPAN, REDUCED_RESTS, REGULAR_DAILY_REST}
use Rattle.hours_rules.specs.declared.clocks.Clock.{Clock}
use Rattle.hours_rules.specs.Rules.{Past, fault_from, failing}
use Rattle.hours_rules.specs.Standing.{Stands}

-- every field of `a` is at least as good as that of `b`, at the same minute, with the same open run; what is owed is no
-- more and due no sooner
pub record DominatesAtMinute (a b : Clock) : Type 0 where
  pub at : a.at ≡ b.at
  pub off : a.off ≡ b.off
  pub day_from : b.day_from ≤ℤ a.day_from
  pub rest_from : b.rest_from ≤ℤ a.rest_from
  pub period : a.period ≤ b.period
  pub half : a.half ≡ b.half
  pub drive_day : a.drive_day ≤ b.drive_day
  pub long_days : a.long_days ≤ b.long_days
  pub split : b.split ≡ true → a.split ≡ true
  pub reduced : a.reduced ≤ b.reduced
  pub prev_weekly : REGULAR_WEEKLY_REST ≤ b.prev_weekly → REGULAR_WEEKLY_REST ≤ a.prev_weekly
  pub work_run : a.work_run ≤ b.work_run
  pub work_day : a.work_day ≤ b.work_day
  pub pause_day : b.pause_day ≤ a.pause_day
  pub drive_week : a.drive_week ≤ b.drive_week
  pub work_week : a.work_week ≤ b.work_week
  pub prev_drive : a.prev_drive ≡ b.prev_drive
  pub work_before : a.work_before ≡ b.work_before
  pub owed : a.owed ≤ b.owed
  pub due : 0 < a.owed → b.due ≤ℤ a.due

-- two lines, with clocks that stand for them, the first as good as the second
pub record Together (pa pb : Past) (wa wb : Minutes) : Type 0 where
  pub first : Clock
  pub second : Clock
  pub as_good : DominatesAtMinute first second
  pub first_stands : Stands first pa wa
  pub second_stands : Stands second pb wb

-- minutes that break no rule after the second line break none after the first, and the order lasts
abbrev pub OrderLasts : Type 0
OrderLasts = (pa pb : Past) (wa wb more : Minutes) → Together pa pb wa wb →
    fault_from (length wb) pb (more ++ wb) ≡ None →
    Together pa pb (more ++ wa) (more ++ wb) × (fault_from (length wa) pa (more ++ wa) ≡ None)

-- the first clock is as good as the second at an earlier or equal minute, and no run is open
pub record IsEarlier (a b : Clock) : Type 0 where
  pub at : a.at ≤ b.at
  pub off : (a.off ≡ 0) × (b.off ≡ 0)
  pub as_good : DominatesAtMinute (record a { at = b.at }) b

-- the clock is within the limits that are judged at any minute on duty (Art. 8): a debt can still be paid in time
pub record IsRested (c : Clock) : Type 0 where
  pub day : (pos c.at -ℤ c.day_from) ≤ℤ pos DAY_LENGTH
  pub week : (pos c.at -ℤ c.rest_from) ≤ℤ pos WEEKLY_SPAN
  pub reduced : c.reduced ≤ REDUCED_RESTS
  pub debt : 0 < c.owed → pos (c.at + REGULAR_DAILY_REST + c.owed) ≤ℤ c.due

-- a clock at an earlier minute that is as good is brought to the later one's minute by Ready minutes, with no rule
-- broken, and is then as good in every field; the later one is within the limits of a minute on duty
abbrev pub ReadyCatchesUp : Type 0
ReadyCatchesUp = (a b : Clock) (pa pb : Past) (wa wb : Minutes) → Stands a pa wa → Stands b pb wb → IsEarlier a b →
    IsRested b → b.at ≤ WEEK_MINUTES →
    Together pa pb (stretch (b.at - a.at) Ready Plain wa) wb
    × (fault_from (length wa) pa (stretch (b.at - a.at) Ready Plain wa) ≡ None)

-- the clock after a minute on duty that breaks no rule is within those limits
abbrev pub LastKeepsLimits : Type 0
LastKeepsLimits = (b : Clock) (past : Past) (m : Minute) (week : Minutes) → Stands b past (m ∷ week) →
    is_duty m.mark ≡ true → failing past m week ≡ None → IsRested b

-- a clock is at least as good as another, which may be later: each of its numbers allows as much, both or neither have a
-- first part of a break, and what it owes is no more and due no sooner
pub record ClockDominates (a b : Clock) : Type 0 where
  pub at : a.at ≤ b.at
  pub day_from : b.day_from ≤ℤ a.day_from
  pub rest_from : b.rest_from ≤ℤ a.rest_from
  pub period : a.period ≤ b.period
  pub half : a.half ≡ b.half
  pub drive_day : a.drive_day ≤ b.drive_day
  pub long_days : a.long_days ≤ b.long_days
  pub split : b.split ≡ true → a.split ≡ true
  pub reduced : a.reduced ≤ b.reduced
  pub prev_weekly : REGULAR_WEEKLY_REST ≤ b.prev_weekly → REGULAR_WEEKLY_REST ≤ a.prev_weekly
  pub work_run : a.work_run ≤ b.work_run
  pub work_day : a.work_day ≤ b.work_day
  pub pause_day : b.pause_day ≤ a.pause_day
  pub drive_week : a.drive_week ≤ b.drive_week
  pub work_week : a.work_week ≤ b.work_week
  pub owed : a.owed ≤ b.owed
  pub due : 0 < a.owed → b.due ≤ℤ a.due
