-- How large a clock's numbers get.
use Rattle.std.proofs.Common.{ℕ, ◌+◌, ◌≤◌, Bool, true, false, cond, arith, pos, ℤ, ◌≤ℤ◌, ◌+ℤ◌, ◌-ℤ◌}
use Rattle.std.proofs.lemmas.Int.{ints}
use Rattle.minute_line.specs.declared.marks.Mark.{Mark}
use Rattle.minute_line.specs.declared.marks.Kind.{Kind}
use Rattle.hours_rules.specs.declared.clocks.Clock.{Clock}
use Rattle.hours_rules.specs.Machine.{run_ended, ticked, rested, rest_here, weekly_here, paying_here, owing_here}
use Rattle.hours_rules.specs.Debts.{third_week_end}
use Rattle.hours_rules.proofs.DebtSizes.{third_week_end-low, third_week_end-high}
use Rattle.hours_rules.specs.Bounds.{IsWithin}

from_high : (b : Bool) (at : ℕ) (from : ℤ) → from ≤ℤ pos at → cond b (pos at) from ≤ℤ pos at
from_high true at from h = omega (arith, ints)
from_high false at from h = h

from_low : (b : Bool) (at n more : ℕ) (from : ℤ) → pos at ≤ℤ (from +ℤ pos n) → n ≤ more → pos at ≤ℤ (cond b (pos at) from +ℤ pos more)
from_low true at n more from h l = omega (arith, ints)
from_low false at n more from h l = omega (arith, ints)

due_high : (pays owes : Bool) (at n more : ℕ) (due : ℤ) → at ≤ n → n ≤ more → due ≤ℤ pos (n + 50400) →
    cond pays (pos 0) (cond owes (third_week_end (pos at -ℤ pos 1)) due) ≤ℤ pos (more + 50400)
due_high true owes at n more due h l d = omega (arith, ints)
due_high false true at n more due h l d = let high = third_week_end-high (pos at -ℤ pos 1) in omega (arith, ints)
due_high false false at n more due h l d = omega (arith, ints)

due_low : (pays owes : Bool) (at n more : ℕ) (due : ℤ) → n ≤ more → pos 0 ≤ℤ (due +ℤ pos n) →
    pos 0 ≤ℤ (cond pays (pos 0) (cond owes (third_week_end (pos at -ℤ pos 1)) due) +ℤ pos more)
due_low true owes at n more due l d = omega (arith, ints)
due_low false true at n more due l d = let low = third_week_end-low (pos at -ℤ pos 1) in omega (arith, ints)
due_low false false at n more due l d = omega (arith, ints)

pub within-ended : (n more : ℕ) (c : Clock) (kind : Kind) → n + 1 ≤ more → IsWithin n c → IsWithin more (run_ended c kind)
within-ended n more c kind h w = record {
  at = omega arith;
  off = omega arith;
  day_from = from_high (rest_here c kind) c.at c.day_from w.day_from;
  day_long = from_low (rest_here c kind) c.at n more c.day_from w.day_long (omega arith);
  rest_from = from_high (weekly_here c kind) c.at c.rest_from w.rest_from;
  rest_long = from_low (weekly_here c kind) c.at n more c.rest_from w.rest_long (omega arith);
  period = grind arith;
  drive_day = grind arith;
  long_days = grind arith;
  reduced = grind arith;
  work_run = grind arith;
  work_day = grind arith;
  pause_day = grind arith;
  drive_week = omega arith;
  work_week = omega arith;
  prev_drive = w.prev_drive;
  work_before = w.work_before;
  owed = grind arith;
  due = due_high (paying_here c kind) (owing_here c kind) c.at n more c.due w.at (omega arith) w.due;
  due_low = due_low (paying_here c kind) (owing_here c kind) c.at n more c.due (omega arith) w.due_low;
}

pub within-ticked : (n k more : ℕ) (c : Clock) (mark : Mark) → n + k ≤ more → IsWithin n c → IsWithin more (ticked c mark k)
within-ticked n k more c mark h w = record {
  at = omega arith;
  off = omega arith;
  day_from = omega (arith, ints);
  day_long = omega (arith, ints);
  rest_from = omega (arith, ints);
  rest_long = omega (arith, ints);
  period = grind arith;
  drive_day = grind arith;
  long_days = omega arith;
  reduced = omega arith;
  work_run = grind arith;
  work_day = grind arith;
  pause_day = w.pause_day;
  drive_week = grind arith;
  work_week = grind arith;
  prev_drive = w.prev_drive;
  work_before = w.work_before;
  owed = w.owed;
  due = omega (arith, ints);
  due_low = omega (arith, ints);
}

pub within-rested : (n k more : ℕ) (c : Clock) → n + k ≤ more → IsWithin n c → IsWithin more (rested c k)
within-rested n k more c h w = record {
  at = omega arith;
  off = omega arith;
  day_from = omega (arith, ints);
  day_long = omega (arith, ints);
  rest_from = omega (arith, ints);
  rest_long = omega (arith, ints);
  period = omega arith;
  drive_day = omega arith;
  long_days = omega arith;
  reduced = omega arith;
  work_run = omega arith;
  work_day = omega arith;
  pause_day = w.pause_day;
  drive_week = omega arith;
  work_week = omega arith;
  prev_drive = w.prev_drive;
  work_before = w.work_before;
  owed = w.owed;
  due = omega (arith, ints);
  due_low = omega (arith, ints);
}
