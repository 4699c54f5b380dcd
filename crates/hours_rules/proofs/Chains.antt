-- A clock that stands for some line: how large its numbers are, and that it goes on to be one.
use Rattle.std.proofs.Common.{◌≡◌, ℕ, ◌+◌, ◌≤◌, length, arith, [], Ok, Err, Result, IfOk}
use Rattle.std.proofs.lemmas.Int.{ints}
use Rattle.minute_line.specs.declared.marks.Mark.{Mark}
use Rattle.minute_line.specs.declared.marks.Mark.TheVariants.{Ready, Off}
use Rattle.minute_line.specs.declared.marks.Kind.TheVariants.{Plain}
use Rattle.minute_line.specs.declared.lines.History.{History}
use Rattle.minute_line.specs.Minutes.{Minutes, stretch}
use Rattle.hours_rules.specs.declared.clocks.Clock.{Clock}
use Rattle.hours_rules.specs.declared.clocks.Stay.{Stay}
use Rattle.hours_rules.specs.declared.rules.Broken.{Broken}
use Rattle.hours_rules.specs.Rules.{Past}
use Rattle.hours_rules.specs.Standing.{Stands, IsClock, IsCarried}
use Rattle.hours_rules.specs.Going.{StandsOrBreaks, AnswersStay, with_stay}
use Rattle.hours_rules.specs.Verdicts.{past_of}
use Rattle.hours_rules.specs.Bounds.{IsWithin}
use Rattle.hours_rules.proofs.Faults.{length-stretch, none_judged}
use Rattle.hours_rules.proofs.Sizes.{within-stands}
use Rattle.hours_rules.proofs.Histories.{is_history, carried}
use Rattle.hours_rules.proofs.Starts.{length-past_of}

pub within-clock : (c : Clock) → IsClock c → IsWithin 60000 c
within-clock c h = within-stands 60000 c h.past h.week h.stands (omega arith) (omega arith) (omega arith) h.debt

pub within-more : (n more : ℕ) (c : Clock) → n ≤ more → IsWithin n c → IsWithin more c
within-more n more c h w = record {
  at = omega arith;
  off = omega arith;
  day_from = w.day_from;
  day_long = omega (arith, ints);
  rest_from = w.rest_from;
  rest_long = omega (arith, ints);
  period = omega arith;
  drive_day = omega arith;
  long_days = omega arith;
  reduced = omega arith;
  work_run = omega arith;
  work_day = omega arith;
  pause_day = w.pause_day;
  drive_week = omega arith;
  work_week = omega arith;
  prev_drive = w.prev_drive;
  work_before = w.work_before;
  owed = w.owed;
  due = omega (arith, ints);
  due_low = omega (arith, ints);
}

length-with_stay : (stay : Stay) (mark : Mark) (n : ℕ) (week : Minutes) →
    length (with_stay stay mark n week) ≡ length week + stay.ready + stay.off + n
length-with_stay stay mark n week =
    let waited = stretch stay.ready Ready Plain week in
    omega (
      arith,
      length-stretch n mark stay.kind (stretch stay.off Off Plain waited),
      length-stretch stay.off Off Plain waited,
      length-stretch stay.ready Ready Plain week,
    )

answers-clock : (from : ℕ) (past : Past) (week : Minutes) (answer : Result Clock Broken) → StandsOrBreaks from past week answer →
    length past.minutes ≤ 40320 → length week ≤ 10080 → past.prev_drive ≤ 10080 → past.work_before ≤ 161280 → IsCarried past.debt →
    IfOk answer IsClock
answers-clock from past week (Ok clock) a p w d b e = record {
  past = past;
  week = week;
  stands = a.0;
  past_minutes = p;
  week_minutes = w;
  prev_drive = d;
  work_before = b;
  debt = e;
}
answers-clock from past week (Err broken) a p w d b e = tt

-- what `go` answers is again a clock that stands for some line
pub goes-on : (c : Clock) (stay : Stay) (mark : Mark) (n : ℕ) (answer : Result Clock Broken) → IsClock c →
    c.at + stay.ready + stay.off + n ≤ 10080 → AnswersStay c stay mark n answer → IfOk answer IsClock
goes-on c stay mark n answer h e a =
    answers-clock (length h.week) h.past (with_stay stay mark n h.week) answer
    (a (length h.week) h.past h.week h.stands (omega arith) (none_judged (length h.week) h.past h.week (omega arith)))
    h.past_minutes (omega (arith, length-with_stay stay mark n h.week, h.stands.at)) h.prev_drive h.work_before h.debt

-- so is the clock of a history
pub starts-off : (c : Clock) (h : History) → Stands c (past_of h) [] → IsClock c
starts-off c h s = let w = is_history h in record {
  past = past_of h;
  week = [];
  stands = s;
  past_minutes = length-past_of h w;
  week_minutes = omega arith;
  prev_drive = w.prev_drive;
  work_before = w.work16;
  debt = carried h;
}
