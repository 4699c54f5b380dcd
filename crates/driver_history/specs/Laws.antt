-- What histories keep: of past rows, of a week, and of idle weeks.
use Rattle.std.specs.Prelude.{◌≡◌, ℕ, ◌+◌, ◌≤◌, List, ◌++◌, ◌∷◌, [], drop, map, sum, Ok, Some, None, pos, ◌-ℤ◌, slice_get}
use Rattle.minute_line.specs.declared.lines.Line.{Line}
use Rattle.minute_line.specs.declared.lines.History.{History}
use Rattle.minute_line.specs.declared.lines.TheConstants.{WEEK_MINUTES}
use Rattle.minute_line.specs.Marks.{is_drive, is_working}
use Rattle.minute_line.specs.Minutes.{Minutes, reached_by, total_of}
use Rattle.minute_line.specs.Debts.{owed_by}
use Rattle.minute_line.specs.Histories.{Fields, fields_of}
use Rattle.hours_rules.specs.Counts.{count}
use Rattle.hours_rules.specs.Debts.{Debt, third_week_end}
use Rattle.hours_rules.specs.Rules.{Past, fault}
use Rattle.hours_rules.specs.Verdicts.{past_of, week_minutes}
use Rattle.week_book.specs.declared.rows.Row.{Row}
use Rattle.week_book.specs.Pasts.{Activity, Rested, PastWorkingTime, past_activities, rests_of, past_working_times_of, HasPastRows}
use Rattle.driver_history.specs.Reading.{stint_said, past_said}
use Rattle.driver_history.specs.Advancing.{advance_of, idle_of}

-- a debt at the same line's start, where it is due counted from the next Monday
abbrev pub a_week_on : Debt → Debt
a_week_on debt = record debt { due = debt.due -ℤ pos WEEK_MINUTES }

-- all that stands before the next Monday: the old history with the week's line, and the week's sums
abbrev pub appended_past : History → Line → Past
appended_past h line = record {
  minutes = week_minutes line ++ (past_of h).minutes;
  prev_weekly = h.prev_weekly;
  prev_drive = count is_drive (week_minutes line);
  work_before = sum (drop 1 h.work16 ++ count is_working (week_minutes line) ∷ []);
  debt = a_week_on (past_of h).debt;
}

-- after a lawful week, the next week has the same first fault on the advanced history as on the whole appended line
abbrev pub AdvanceLasts : Type 0
AdvanceLasts = (h next : History) (line : Line) → total_of line.stints ≤ WEEK_MINUTES → fault (past_of h) (week_minutes line) ≡ None →
    fields_of next ≡ advance_of (fields_of h) line.stints → (week : Minutes) →
    fault (past_of next) week ≡ fault (appended_past h line) week

-- all that the rows of a driver put before Monday: the minutes since the rest, and the debt of that rest, due three weeks
-- after the week of its last minute
abbrev pub rows_past : Rested → PastWorkingTime → List Activity → Past
rows_past rested past_work activities = record {
  minutes = (reached_by (map stint_said activities)).minutes;
  prev_weekly = rested.minutes;
  prev_drive = past_work.last;
  work_before = sum past_work.weeks;
  debt = record { owed = owed_by rested.minutes; due = third_week_end (rested.end -ℤ pos 1) };
}

-- where the rows say a history, each week has the same first fault after it as after the rows' minutes
abbrev pub RowsLast : Type 0
RowsLast = (rows : List Row) (name : List ℕ) (h : History) (rested : Rested) (past_work : PastWorkingTime) → HasPastRows rows →
    past_said name rows ≡ Ok (Some (fields_of h)) → slice_get (rests_of name rows) 0 ≡ Some rested →
    slice_get (past_working_times_of name rows) 0 ≡ Some past_work → (week : Minutes) →
    fault (past_of h) week ≡ fault (rows_past rested past_work (past_activities name rows)) week

-- more than sixteen idle weeks leave what sixteen leave
abbrev pub IdleSettles : Type 0
IdleSettles = (h : History) (weeks : ℕ) → 16 ≤ weeks → idle_of weeks (fields_of h) ≡ idle_of 16 (fields_of h)

-- idle by 0 weeks is the history itself, and by one week more is one advance by an empty line more
abbrev pub IdleIsAdvances : Type 0
IdleIsAdvances = (f : Fields) (weeks : ℕ) → (idle_of 0 f ≡ f) × (idle_of (weeks + 1) f ≡ advance_of (idle_of weeks f) [])
