-- What a driver still owes for a reduced weekly rest, once a week is over (Art. 8(6)).
use Rattle.std.specs.Prelude.{ℕ, ◌-◌, ◌/◌, if◌then◌else◌, nat_eq, nat_abs, List, [], ◌∷◌, length}
use Rattle.minute_line.specs.declared.marks.Stint.{Stint}
use Rattle.minute_line.specs.declared.lines.TheConstants.{WEEK_MINUTES}
use Rattle.minute_line.specs.Minutes.{Minutes}
use Rattle.minute_line.specs.Histories.{Fields}
use Rattle.hours_rules.specs.Counts.{ends_weekly}
use Rattle.hours_rules.specs.Debts.{Debt, debt_along}
use Rattle.hours_rules.specs.Rules.{whole}
use Rattle.hours_rules.specs.Verdicts.{debt_from, past_from, week_from}

-- the debt right after the last weekly rest that ended in a line, or at the line's start where none did; Monday lies so
-- many minutes after that start
abbrev pub debt_at_start : Debt → ℕ → Minutes → Debt
debt_at_start debt monday [] = debt
debt_at_start debt monday (m ∷ before) =
    if ends_weekly m before then debt_along debt monday (m ∷ before) else debt_at_start debt monday before

-- the debt where the line begins that is left of a history and a week with these stints
abbrev pub debt_left : Fields → List Stint → Debt
debt_left h line = debt_at_start (debt_from h) (length (past_from h).minutes) (whole (past_from h) (week_from line))

-- the weeks from next Monday to the end of the week by which a debt is due, 0 where that is past or nothing is owed
abbrev pub weeks_due : Debt → ℕ
weeks_due debt = if nat_eq debt.owed 0 then 0 else nat_abs debt.due / WEEK_MINUTES - 1
