-- The rules, at a minute of the week, and a line's first fault.
use Rattle.std.specs.Prelude.{ℕ, ◌+◌, Bool, not, ◌&&◌, ◌||◌, nat_eq, nat_lt, nat_le, int_le, pos, if◌then◌else◌, List, [], ◌∷◌, ◌++◌, length, Option, Some, None, find, option_map}
use Rattle.std.specs.Option.{option_or}
use Rattle.minute_line.specs.declared.marks.Kind.{Kind}
use Rattle.minute_line.specs.declared.marks.Kind.TheVariants.{Plain, Daily, Weekly}
use Rattle.minute_line.specs.Minutes.{Minute, Minutes}
use Rattle.minute_line.specs.declared.debts.TheConstants.{REGULAR_WEEKLY_REST, WEEKLY_REST}
use Rattle.hours_rules.specs.declared.thresholds.TheConstants.{PERIOD_DRIVE, DAY_DRIVE, LONG_DAY_DRIVE, LONG_DAYS, DAY_LENGTH, DAILY_REST, REGULAR_DAILY_REST, REDUCED_RESTS, WEEKLY_SPAN, WEEK_DRIVE, FORTNIGHT_DRIVE, WEEK_WORK, SEVENTEEN_WEEKS_WORK, PAUSE, UNPAUSED_WORK, SHORT_PAUSES, BRIEFLY_PAUSED_WORK, LONG_PAUSES}
use Rattle.hours_rules.specs.declared.rules.Rule.{Rule}
use Rattle.hours_rules.specs.declared.rules.Rule.TheVariants.{H1, H2, H3, H4, H5, H6, H7, H8, H9, H10, H11, H12}
use Rattle.hours_rules.specs.declared.rules.Broken.{Broken}
use Rattle.minute_line.specs.Marks.{is_duty, is_drive, is_working}
use Rattle.hours_rules.specs.Counts.{count, open_run, ends_run, work_day_of, since_weekly, since_pause, period_of, ends_reduced, ends_long, times, off_in_runs, last_weekly}
use Rattle.hours_rules.specs.Debts.{Debt, debt_along}

-- what stands before Monday: minutes, the weekly rest and the debt before them, and counts of earlier weeks
pub record Past : Type 0 where
  pub minutes : Minutes
  pub prev_weekly : ℕ
  pub prev_drive : ℕ
  pub work_before : ℕ
  pub debt : Debt

-- the line: the week so far, with all that stands before it
abbrev pub whole : Past → Minutes → Minutes
whole past week = week ++ past.minutes

-- the debt of reduced weekly rests at the end of the week so far (Art. 8(6), 8(7))
abbrev pub debt_of : Past → Minutes → Debt
debt_of past week = debt_along past.debt (length past.minutes) (whole past week)

-- how many long days that count have ended (Art. 6(1))
abbrev pub long_days_of : Minutes → Minutes → ℕ
long_days_of past [] = 0
long_days_of past (m ∷ week) = (if ends_long past m week then 1 else 0) + long_days_of past week

-- how long an off run must be that is declared so, after a weekly rest of `weekly` minutes and where `owed` minutes are
-- owed (Art. 4, 8(6))
abbrev pub least_rest : Kind → ℕ → ℕ → ℕ
least_rest Plain weekly owed = 0
least_rest Daily weekly owed = DAILY_REST
least_rest Weekly weekly owed = if nat_lt weekly REGULAR_WEEKLY_REST || nat_lt 0 owed then REGULAR_WEEKLY_REST else WEEKLY_REST

-- the rule holds at the minute m, which follows `week`; at a minute at which it is not judged, each rule holds. The articles are
-- of Regulation 561/2006, and where it says so of Directive 2002/15/EC
abbrev pub holds : Past → Minute → Minutes → Rule → Bool
-- at each Drive minute: its driving period has at most 270 Drive minutes up to and with it (Art. 7)
holds past m week H1 =
    not (is_drive m.mark) || nat_le (count is_drive (period_of (whole past (m ∷ week)))) PERIOD_DRIVE
-- at each Drive minute: its work day has at most 540 Drive minutes up to and with it, or at most 600 where fewer than two long
-- days of this week have ended (Art. 6(1))
holds past m week H2 =
    not (is_drive m.mark) || nat_le (count is_drive (work_day_of (whole past (m ∷ week))))
    (if nat_lt (long_days_of past.minutes (m ∷ week)) LONG_DAYS then LONG_DAY_DRIVE else DAY_DRIVE)
-- at each minute on duty: it is among the first 900 minutes of its work day (Art. 8(2))
holds past m week H3 = not (is_duty m.mark) || nat_le (length (work_day_of (whole past (m ∷ week)))) DAY_LENGTH
-- at each minute on duty: at most three reduced daily rests have ended since the last weekly rest (Art. 8(4))
holds past m week H4 =
    not (is_duty m.mark) || nat_le (times ends_reduced (since_weekly (whole past (m ∷ week)))) REDUCED_RESTS
-- at the first minute on duty after a rest: a daily rest has at least 540 minutes; a weekly rest has at least 1,440, and at least
-- 2,700 where the weekly rest before it had less, or while a debt is owed (Art. 4, 8(6))
holds past m week H5 =
    not (ends_run 1 m (whole past week))
    || nat_le (least_rest m.kind (last_weekly past.prev_weekly (whole past week)) (debt_of past week).owed)
    (open_run (whole past week))
-- at each minute on duty: it is among the first 8,640 minutes (six days) after the last weekly rest (Art. 8(6))
holds past m week H6 = not (is_duty m.mark) || nat_le (length (since_weekly (whole past (m ∷ week)))) WEEKLY_SPAN
-- at each Drive minute: the week has at most 3,360 Drive minutes up to and with it (Art. 6(2))
holds past m week H7 = not (is_drive m.mark) || nat_le (count is_drive (m ∷ week)) WEEK_DRIVE
-- at each Drive minute: the Drive minutes of the week up to and with it, and last week's, are at most 5,400 (Art. 6(3))
holds past m week H8 = not (is_drive m.mark) || nat_le (count is_drive (m ∷ week) + past.prev_drive) FORTNIGHT_DRIVE
-- at each working minute: the week has at most 3,600 working minutes up to and with it, and with the sixteen weeks before at most
-- 48,960, which is 48 hours a week on average (Directive, Art. 4)
holds past m week H9 =
    not (is_working m.mark) || (nat_le (count is_working (m ∷ week)) WEEK_WORK
    && nat_le (count is_working (m ∷ week) + past.work_before) SEVENTEEN_WEEKS_WORK)
-- at each working minute: at most 360 working minutes, up to and with it, since the last off run of 15 minutes or more (Directive,
-- Art. 5)
holds past m week H10 =
    not (is_working m.mark) || nat_le (count is_working (since_pause (whole past (m ∷ week)))) UNPAUSED_WORK
-- at each working minute: the off runs of 15 minutes or more before it in its work day have at least 30 minutes together where it is
-- the day's 361st working minute or a later one, and at least 45 where it is the 541st or a later one (Directive, Art. 5)
holds past m week H11 =
    let worked = count is_working (work_day_of (whole past (m ∷ week))) in
    let paused = off_in_runs PAUSE (work_day_of (whole past (m ∷ week))) in
    not (is_working m.mark) || ((nat_lt worked (UNPAUSED_WORK + 1) || nat_le SHORT_PAUSES paused)
    && (nat_lt worked (BRIEFLY_PAUSED_WORK + 1) || nat_le LONG_PAUSES paused))
-- at each minute on duty: nothing is owed for a reduced weekly rest, or there is still room for a daily rest of 660 minutes and the
-- debt before it is due (Art. 8(6), 8(7))
holds past m week H12 =
    let debt = debt_of past (m ∷ week) in
    not (is_duty m.mark) || (nat_eq debt.owed 0 || int_le (pos (length (m ∷ week) + REGULAR_DAILY_REST + debt.owed)) debt.due)

-- the number in a rule's name
abbrev pub rule_number : Rule → ℕ
rule_number H1 = 1
rule_number H2 = 2
rule_number H3 = 3
rule_number H4 = 4
rule_number H5 = 5
rule_number H6 = 6
rule_number H7 = 7
rule_number H8 = 8
rule_number H9 = 9
rule_number H10 = 10
rule_number H11 = 11
rule_number H12 = 12

-- the rules, in the order in which the faults of one minute are named
abbrev pub all_rules : List Rule
all_rules = H1 ∷ H2 ∷ H3 ∷ H4 ∷ H5 ∷ H6 ∷ H7 ∷ H8 ∷ H9 ∷ H10 ∷ H11 ∷ H12 ∷ []

-- the least rule that fails at the minute m, which follows `week`
abbrev pub failing : Past → Minute → Minutes → Option Rule
failing past m week = find (λ rule. not (holds past m week rule)) all_rules

-- the fault of a minute at which that rule fails
abbrev pub fault_at : ℕ → Option Rule → Option Broken
fault_at minute rule = option_map (λ r. record { rule = r; minute = minute }) rule

-- the first minute of the week, from minute `from` on, at which a rule fails, with the least rule there
abbrev pub fault_from : ℕ → Past → Minutes → Option Broken
fault_from from past [] = None
fault_from from past (m ∷ week) =
    option_or (fault_from from past week)
    (fault_at (length week) (if nat_lt (length week) from then None else failing past m week))

-- the first minute of the week at which a rule fails, with the least rule there
abbrev pub fault : Past → Minutes → Option Broken
fault past week = fault_from 0 past week
