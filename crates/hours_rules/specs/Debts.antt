-- The debt that a reduced weekly rest leaves, and what pays it (Art. 8(6), 8(7)).
use Rattle.std.specs.Prelude.{ℕ, ◌+◌, ◌-◌, Bool, ◌&&◌, ◌||◌, nat_eq, nat_le, nat_lt, if◌then◌else◌, [], ◌∷◌, length, ℤ, pos, ◌+ℤ◌, ◌-ℤ◌, ◌*ℤ◌}
use Rattle.std.specs.Int.{int_div_euclid}
use Rattle.minute_line.specs.declared.debts.TheConstants.{REGULAR_WEEKLY_REST}
use Rattle.minute_line.specs.declared.lines.TheConstants.{WEEK_MINUTES}
use Rattle.minute_line.specs.Minutes.{Minute, Minutes}
use Rattle.hours_rules.specs.declared.thresholds.TheConstants.{REGULAR_DAILY_REST}
use Rattle.hours_rules.specs.Counts.{open_run, ends_daily, ends_weekly}

-- the minutes of rest that a driver owes, and the end of the week by which they are due, as a week minute
pub record Debt : Type 0 where
  pub owed : ℕ
  pub due : ℤ

-- nothing is owed
abbrev pub no_debt : Debt
no_debt = record { owed = 0; due = pos 0 }

-- the end of the third calendar week after the week of a minute, as a week minute; the planned week begins at 0
abbrev pub third_week_end : ℤ → ℤ
third_week_end minute = (int_div_euclid minute (pos WEEK_MINUTES) +ℤ pos 4) *ℤ pos WEEK_MINUTES

-- the minute m, which follows the list `before`, ends a rest that pays so many minutes: a regular daily or weekly rest
-- that is longer by them (Art. 8(7))
abbrev pub ends_paying : ℕ → Minute → Minutes → Bool
ends_paying owed m before =
    (ends_daily m before && nat_le (REGULAR_DAILY_REST + owed) (open_run before))
    || (ends_weekly m before && nat_le (REGULAR_WEEKLY_REST + owed) (open_run before))

-- it ends a reduced weekly rest where nothing is owed yet
abbrev pub ends_owing : ℕ → Minute → Minutes → Bool
ends_owing owed m before = ends_weekly m before && (nat_lt (open_run before) REGULAR_WEEKLY_REST && nat_eq owed 0)

-- the debt at the minute m, which is the week minute `at`, where `debt` stood before it
abbrev pub debt_after : Debt → ℤ → Minute → Minutes → Debt
debt_after debt at m before =
    if ends_paying debt.owed m before then no_debt
    else (if ends_owing debt.owed m before
    then record { owed = REGULAR_WEEKLY_REST - open_run before; due = third_week_end (at -ℤ pos 1) }
    else debt)

-- the debt at the end of a line that begins with a debt, and so many minutes before Monday
abbrev pub debt_along : Debt → ℕ → Minutes → Debt
debt_along debt monday [] = debt
debt_along debt monday (m ∷ before) =
    debt_after (debt_along debt monday before) (pos (length before) -ℤ pos monday) m before
