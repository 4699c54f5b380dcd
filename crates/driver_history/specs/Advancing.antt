-- The history after a week.
use Rattle.std.specs.Prelude.{ℕ, zero, suc, ◌-◌, if◌then◌else◌, List, [], ◌∷◌, ◌++◌, drop, fold, sum_by}
use Rattle.minute_line.specs.declared.marks.Kind.TheVariants.{Plain}
use Rattle.minute_line.specs.declared.marks.Stint.{Stint}
use Rattle.minute_line.specs.declared.lines.TheConstants.{WEEK_MINUTES}
use Rattle.minute_line.specs.Marks.{is_drive, is_working}
use Rattle.minute_line.specs.Minutes.{total_of}
use Rattle.minute_line.specs.Histories.{Fields}
use Rattle.minute_line.specs.Debts.{with_debt}
use Rattle.driver_history.specs.Debts.{debt_left, weeks_due}
use Rattle.driver_history.specs.Carrying.{SinceWeeklyRestFields, no_line, rest, carry, fields_left}

-- the Drive minutes of a stint
abbrev pub drive_in : Stint → ℕ
drive_in s = if is_drive s.mark then s.minutes else 0

-- the working minutes of a stint
abbrev pub work_in : Stint → ℕ
work_in s = if is_working s.mark then s.minutes else 0

-- the Drive minutes of a week
abbrev pub drive_total : List Stint → ℕ
drive_total line = sum_by drive_in line

-- the working minutes of a week
abbrev pub work_total : List Stint → ℕ
work_total line = sum_by work_in line

-- the line of a history and a week, as stints: what the week's line leaves out is Off
abbrev pub appended : Fields → List Stint → List Stint
appended h line = h.stints ++ (rest h.open_off Plain ∷ (line ++ rest (WEEK_MINUTES - total_of line) Plain ∷ []))

-- what is left of that line after its last weekly rest that ended
abbrev pub left_of : Fields → List Stint → SinceWeeklyRestFields
left_of h line = fold carry (no_line h.prev_weekly) (appended h line)

-- the history after a week with this line; it states the debt where the line that is left begins
abbrev pub advance_of : Fields → List Stint → Fields
advance_of h line =
    with_debt (debt_left h line).owed (weeks_due (debt_left h line))
    (fields_left (left_of h line) (drive_total line) (drop 1 h.work16 ++ work_total line ∷ []))

-- the history after so many weeks in which nothing is done
abbrev pub idle_of : ℕ → Fields → Fields
idle_of zero h = h
idle_of (suc weeks) h = advance_of (idle_of weeks h) []
