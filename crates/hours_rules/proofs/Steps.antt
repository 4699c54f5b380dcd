-- What one more minute does to each number of a line.
use Rattle.std.proofs.Common.{◌≡◌, ℕ, ◌+◌, ◌-◌, ◌≤◌, Bool, true, false, cond, ltb, [], ◌∷◌, length, arith, pos, ℤ, ◌-ℤ◌, suc, int_lt}
use Rattle.std.proofs.lemmas.Int.{ints}
use Rattle.minute_line.specs.Minutes.{Minute, Minutes}
use Rattle.minute_line.specs.declared.marks.Mark.TheVariants.{Off}
use Rattle.hours_rules.specs.declared.clocks.Clock.{Clock}
use Rattle.minute_line.specs.Marks.{is_duty}
use Rattle.hours_rules.specs.Counts.{open_run, ends_rest, ends_weekly, work_day_of, ends_reduced, since_weekly, times}
use Rattle.hours_rules.specs.Rules.{Past, whole}
use Rattle.hours_rules.specs.Standing.{Stands}
use Rattle.hours_rules.specs.Machine.{run_ended, ticked, rested, reduced_here}
use Rattle.hours_rules.proofs.Debts.{owed-duty, due-duty, debt-off}
use Rattle.hours_rules.proofs.Spans.{open_run-since, open_run-period_of, open_run-length, duty-ends_rest, duty-ends_weekly, work_day_of-since_weekly}

-- where a span begins, counted from Monday, after one more minute
from_step : (b t : Bool) (at n : ℕ) (from : ℤ) (w : Minutes) → t ≡ b → at ≡ n → from ≡ pos n -ℤ pos (length w) →
    cond t (pos at) from ≡ pos (suc n) -ℤ pos (suc (length (cond b [] w)))
from_step true t at n from w e a h = rw e (omega (arith, ints))
from_step false t at n from w e a h = rw e (omega (arith, ints))

-- how far into the work day a run began
offset_tests : (at n wd : ℕ) (from : ℤ) → from ≡ pos at -ℤ pos wd → n ≤ wd →
    int_lt (pos 780) ((pos at -ℤ from) -ℤ pos n) ≡ ltb 780 (wd - n)
offset_tests at n wd from h l = grind (arith, ints)

ends_reduced-since_weekly : (m : Minute) (line : Minutes) → ends_reduced m (since_weekly line) ≡ ends_reduced m line
ends_reduced-since_weekly m line = simp (open_run-since ends_weekly duty-ends_weekly, work_day_of-since_weekly)

reduced_step : (m : Minute) (line : Minutes) →
    times ends_reduced (since_weekly (m ∷ line))
    ≡ cond (ends_weekly m line) 0 (cond (ends_reduced m line) 1 0 + times ends_reduced (since_weekly line))
reduced_step m line = grind (arith, ends_reduced-since_weekly m line)

-- a run is no longer than the work day that it lies in
open_run-work_day_of : (line : Minutes) → open_run line ≤ length (work_day_of line)
open_run-work_day_of line =
    omega (arith, open_run-since ends_rest duty-ends_rest line, open_run-length (work_day_of line))

reduced_is : (c : Clock) (past : Past) (m : Minute) (week : Minutes) → is_duty m.mark ≡ true →
    Stands c past week → reduced_here c m.kind ≡ ends_reduced m (whole past week)
reduced_is c past m week d s =
    let o = offset_tests c.at c.off (length (work_day_of (whole past week))) c.day_from (rw s.at s.day_from) (rw s.off (open_run-work_day_of (whole past week))) in
    grind (arith, o)

pub stands-duty : (c : Clock) (past : Past) (m : Minute) (week : Minutes) → is_duty m.mark ≡ true →
    Stands c past week → Stands (ticked (run_ended c m.kind) m.mark 1) past (m ∷ week)
stands-duty c past m week d s = record {
  at = grind arith;
  off = grind arith;
  day_from = from_step (ends_rest m (whole past week)) _ _ _ _ _ (grind arith) s.at s.day_from;
  rest_from = from_step (ends_weekly m (whole past week)) _ _ _ _ _ (grind arith) s.at s.rest_from;
  period = grind arith;
  half = grind (arith, open_run-period_of (whole past week));
  drive_day = grind arith;
  long_days = grind arith;
  split = grind (arith, open_run-since ends_rest duty-ends_rest (whole past week));
  reduced = grind (arith, reduced_step m (whole past week), reduced_is c past m week d s);
  prev_weekly = grind arith;
  work_run = grind arith;
  work_day = grind arith;
  pause_day = grind (arith, open_run-since ends_rest duty-ends_rest (whole past week));
  drive_week = grind arith;
  work_week = grind arith;
  prev_drive = grind arith;
  work_before = grind arith;
  owed = owed-duty c past m week d s;
  due = due-duty c past m week d s;
}

pub stands-off : (c : Clock) (past : Past) (m : Minute) (week : Minutes) → m.mark ≡ Off →
    Stands c past week → Stands (rested c 1) past (m ∷ week)
stands-off c past m week d s = record {
  at = grind arith;
  off = grind arith;
  day_from = from_step (ends_rest m (whole past week)) false _ _ _ _ (grind arith) s.at s.day_from;
  rest_from = from_step (ends_weekly m (whole past week)) false _ _ _ _ (grind arith) s.at s.rest_from;
  period = grind arith;
  half = grind arith;
  drive_day = grind arith;
  long_days = grind arith;
  split = grind arith;
  reduced = grind (arith, reduced_step m (whole past week));
  prev_weekly = grind arith;
  work_run = grind arith;
  work_day = grind arith;
  pause_day = grind arith;
  drive_week = grind arith;
  work_week = grind arith;
  prev_drive = grind arith;
  work_before = grind arith;
  owed = rw (debt-off past m week d) s.owed;
  due = rw (debt-off past m week d) s.due;
}
