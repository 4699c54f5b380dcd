-- Spans keep the open run, and a span that begins inside a span is a span of the whole.
use Rattle.std.proofs.Common.{◌≡◌, ◌≤◌, Bool, true, ◌&&◌, leb, [], ◌∷◌, length, refl, ap, arith}
use Rattle.minute_line.specs.Minutes.{Minute, Minutes}
use Rattle.minute_line.specs.Marks.{is_rest, is_duty}
use Rattle.hours_rules.specs.Counts.{open_run, ends_rest, ends_weekly, since, period_of, work_day_of, since_weekly}

-- a begin test that holds only at on-duty minutes
pub record OnDuty (begins : Minute → Minutes → Bool) : Type 0 where
  pub duty : (m : Minute) (before : Minutes) → begins m before ≡ true → is_duty m.mark ≡ true

pub open_run-since : (begins : Minute → Minutes → Bool) → OnDuty begins → (line : Minutes) →
    open_run (since begins line) ≡ open_run line
open_run-since begins h [] = refl
open_run-since begins h (m ∷ before) = grind (arith, h.duty m before, open_run-since begins h before)

pub open_run-period_of : (line : Minutes) → open_run (period_of line) ≡ open_run line
open_run-period_of [] = refl
open_run-period_of (m ∷ before) = grind (arith, open_run-period_of before)

pub open_run-length : (line : Minutes) → open_run line ≤ length line
open_run-length [] = omega arith
open_run-length (m ∷ before) = grind (arith, open_run-length before)

pub duty-ends_rest : OnDuty ends_rest
duty-ends_rest = record { duty = λ m before h. grind arith }

pub duty-ends_weekly : OnDuty ends_weekly
duty-ends_weekly = record { duty = λ m before h. grind arith }

-- the work day is the same whether the line or its span since the last Weekly run is looked at
pub ends_rest-since_weekly : (m : Minute) (line : Minutes) → ends_rest m (since_weekly line) ≡ ends_rest m line
ends_rest-since_weekly m line = ap (λ k. (is_duty m.mark && leb 1 k) && is_rest m.kind) (open_run-since ends_weekly duty-ends_weekly line)

pub work_day_of-since_weekly : (line : Minutes) → work_day_of (since_weekly line) ≡ work_day_of line
work_day_of-since_weekly [] = refl
work_day_of-since_weekly (m ∷ before) = grind (arith, ends_rest-since_weekly m before, work_day_of-since_weekly before)
