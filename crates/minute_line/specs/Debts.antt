-- The rest that a driver owes for a reduced weekly rest (Art. 8(6)).
use Rattle.std.specs.Prelude.{ℕ, ◌+◌, ◌-◌, ◌/◌, if◌then◌else◌, nat_eq}
use Rattle.minute_line.specs.declared.lines.TheConstants.{WEEK_MINUTES}
use Rattle.minute_line.specs.declared.debts.TheConstants.{REGULAR_WEEKLY_REST}
use Rattle.minute_line.specs.Minutes.{total_of}
use Rattle.minute_line.specs.Histories.{Fields}

-- the minutes that a weekly rest lacks of a regular one
abbrev pub owed_by : ℕ → ℕ
owed_by minutes = REGULAR_WEEKLY_REST - minutes

-- by how many weeks the week of a rest's last minute lies before the planned one; the rest ended `ago` minutes before Monday
abbrev pub weeks_ago : ℕ → ℕ
weeks_ago ago = ago / WEEK_MINUTES + 1

-- the weeks from Monday to the end of the third week after that of the rest's last minute, 0 where that end is past
abbrev pub weeks_left : ℕ → ℕ
weeks_left ago = 4 - weeks_ago ago

-- a history's fields with this debt in place of its own
abbrev pub with_debt : ℕ → ℕ → Fields → Fields
with_debt owed due f = record f { owed = owed; due = due }

-- a history's fields with the debt of a weekly rest of so many minutes, which ended `ago` minutes before Monday
abbrev pub with_rest_debt : ℕ → ℕ → Fields → Fields
with_rest_debt rest ago f = with_debt (owed_by rest) (if nat_eq (owed_by rest) 0 then 0 else weeks_left ago) f

-- how many minutes before Monday the last weekly rest of a history ended
abbrev pub since_rest : Fields → ℕ
since_rest f = total_of f.stints + f.open_off

-- a history's fields with the debt of its own last weekly rest
abbrev pub with_own_debt : Fields → Fields
with_own_debt f = with_rest_debt f.prev_weekly (since_rest f) f
