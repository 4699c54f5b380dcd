-- The numbers of a line are no larger than its length.
use Rattle.std.proofs.Common.{ℕ, ◌+◌, ◌≤◌, Bool, [], ◌∷◌, length, arith, length-append}
use Rattle.std.proofs.lemmas.Int.{ints}
use Rattle.minute_line.specs.declared.marks.Mark.{Mark}
use Rattle.minute_line.specs.Minutes.{Minute, Minutes}
use Rattle.hours_rules.specs.declared.clocks.Clock.{Clock}
use Rattle.minute_line.specs.Marks.{is_drive, is_working}
use Rattle.hours_rules.specs.Counts.{count, since, period_of, times, work_day_of, since_weekly, since_pause, ends_rest, ends_weekly, ends_run, ends_reduced}
use Rattle.hours_rules.specs.Rules.{Past, whole, long_days_of}
use Rattle.hours_rules.specs.Standing.{Stands, IsCarried}
use Rattle.hours_rules.specs.Bounds.{IsWithin}
use Rattle.hours_rules.proofs.Spans.{open_run-length}
use Rattle.hours_rules.proofs.DebtSizes.{debt-within}

count-length : (test : Mark → Bool) (line : Minutes) → count test line ≤ length line
count-length test [] = omega arith
count-length test (m ∷ before) = grind (arith, count-length test before)

length-since : (begins : Minute → Minutes → Bool) (line : Minutes) → length (since begins line) ≤ length line
length-since begins [] = omega arith
length-since begins (m ∷ before) = grind (arith, length-since begins before)

length-period_of : (line : Minutes) → length (period_of line) ≤ length line
length-period_of [] = omega arith
length-period_of (m ∷ before) = grind (arith, length-period_of before)

times-length : (test : Minute → Minutes → Bool) (line : Minutes) → times test line ≤ length line
times-length test [] = omega arith
times-length test (m ∷ before) = grind (arith, times-length test before)

long_days_of-length : (past week : Minutes) → long_days_of past week ≤ length week
long_days_of-length past [] = omega arith
long_days_of-length past (m ∷ week) = grind (arith, long_days_of-length past week)

pub within-stands : (n : ℕ) (c : Clock) (past : Past) (week : Minutes) → Stands c past week → length week + length past.minutes ≤ n →
    past.prev_drive ≤ 200000 → past.work_before ≤ 200000 → IsCarried past.debt → IsWithin n c
within-stands n c past week s l p w d =
    let all : length (whole past week) ≤ n = omega (arith, length-append week past.minutes) in
    let debt = debt-within n (length past.minutes) past.debt (whole past week) d (omega arith) all in record {
      at = omega (arith, s.at);
      off = omega (arith, s.off, open_run-length (whole past week));
      day_from = omega (arith, ints, s.day_from, s.at);
      day_long = omega (arith, ints, s.day_from, s.at, length-since ends_rest (whole past week));
      rest_from = omega (arith, ints, s.rest_from, s.at);
      rest_long = omega (arith, ints, s.rest_from, s.at, length-since ends_weekly (whole past week));
      period = omega (arith, s.period, count-length is_drive (period_of (whole past week)), length-period_of (whole past week));
      drive_day = omega (arith, s.drive_day, count-length is_drive (work_day_of (whole past week)), length-since ends_rest (whole past week));
      long_days = omega (arith, s.long_days, long_days_of-length past.minutes week);
      reduced = omega (arith, s.reduced, times-length ends_reduced (since_weekly (whole past week)), length-since ends_weekly (whole past week));
      work_run = omega (arith, s.work_run, count-length is_working (since_pause (whole past week)), length-since (ends_run 15) (whole past week));
      work_day = omega (arith, s.work_day, count-length is_working (work_day_of (whole past week)), length-since ends_rest (whole past week));
      pause_day = omega (arith, s.pause_day);
      drive_week = omega (arith, s.drive_week, count-length is_drive week);
      work_week = omega (arith, s.work_week, count-length is_working week);
      prev_drive = omega (arith, s.prev_drive);
      work_before = omega (arith, s.work_before);
      owed = omega (arith, s.owed, debt.owed);
      due = rw s.due debt.due;
      due_low = rw s.due debt.low;
    }
