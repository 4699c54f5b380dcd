-- Spans of a line and the counts over them. A line is a list of minutes, the newest first.
use Rattle.std.specs.Prelude.{ℕ, ◌+◌, ◌-◌, Bool, false, not, ◌&&◌, ◌||◌, nat_lt, nat_le, if◌then◌else◌, [], ◌∷◌, ◌++◌, length}
use Rattle.minute_line.specs.declared.marks.Mark.{Mark}
use Rattle.minute_line.specs.Marks.{is_duty, is_drive, is_daily, is_weekly, is_rest}
use Rattle.minute_line.specs.Minutes.{Minute, Minutes}
use Rattle.hours_rules.specs.declared.thresholds.TheConstants.{FULL_BREAK, FIRST_PART, SECOND_PART, DAY_DRIVE, REGULAR_DAILY_REST, DAY_BEFORE_REST, SPLIT_REST, PAUSE}

-- how many minutes of a list have such a mark
abbrev pub count : (Mark → Bool) → Minutes → ℕ
count test [] = 0
count test (m ∷ before) = (if test m.mark then 1 else 0) + count test before

-- the length of the off run at the newest end, which has not ended (Art. 4)
abbrev pub open_run : Minutes → ℕ
open_run [] = 0
open_run (m ∷ before) = if is_duty m.mark then 0 else 1 + open_run before

-- the minute m, which follows the list `before`, ends an off run of at least n minutes
abbrev pub ends_run : ℕ → Minute → Minutes → Bool
ends_run n m before = is_duty m.mark && nat_le n (open_run before)

-- it ends a daily or a weekly rest
abbrev pub ends_rest : Minute → Minutes → Bool
ends_rest m before = ends_run 1 m before && is_rest m.kind

-- it ends a daily rest
abbrev pub ends_daily : Minute → Minutes → Bool
ends_daily m before = ends_run 1 m before && is_daily m.kind

-- it ends a weekly rest
abbrev pub ends_weekly : Minute → Minutes → Bool
ends_weekly m before = ends_run 1 m before && is_weekly m.kind

-- an off run of at least n minutes ended within the list; the open run is left out, and one that the list begins after
abbrev pub has_run : ℕ → Minutes → Bool
has_run n [] = false
has_run n (m ∷ before) = ends_run n m before || has_run n before

-- the minutes of the off runs of at least n minutes that ended within the list; the same two are left out
abbrev pub off_in_runs : ℕ → Minutes → ℕ
off_in_runs n [] = 0
off_in_runs n (m ∷ before) = (if ends_run n m before then open_run before else 0) + off_in_runs n before

-- the minutes from the last one at which `begins` holds, or from the line's start
abbrev pub since : (Minute → Minutes → Bool) → Minutes → Minutes
since begins [] = []
since begins (m ∷ before) = m ∷ (if begins m before then [] else since begins before)

-- the work day: all minutes after the last daily or weekly rest that has ended (Art. 4)
abbrev pub work_day_of : Minutes → Minutes
work_day_of line = since ends_rest line

-- all minutes after the last weekly rest that has ended (Art. 8(6))
abbrev pub since_weekly : Minutes → Minutes
since_weekly line = since ends_weekly line

-- all minutes after the last off run of at least 15 minutes that has ended, whatever it was declared to be (Directive, Art. 5)
abbrev pub since_pause : Minutes → Minutes
since_pause line = since (ends_run PAUSE) line

-- it ends a full break, where `period` is the driving period that it would go on with: a run of at least
-- 45 minutes, or at least 30 where a run of at least 15 ended earlier in that period (Art. 7)
abbrev pub ends_break : Minutes → Minute → Minutes → Bool
ends_break period m before = ends_run FULL_BREAK m before || (ends_run SECOND_PART m before && has_run FIRST_PART period)

-- the driving period: all minutes after the last full break that has ended (Art. 7)
abbrev pub period_of : Minutes → Minutes
period_of [] = []
period_of (m ∷ before) =
    m ∷ (if ends_break (period_of before) m before then [] else period_of before)

-- it ends a reduced daily rest: no run of at least 180 minutes lies before it in its work day, and it is shorter
-- than 660 or more than 780 minutes of its work day lie before it (Art. 8(2)); asked within the span since the last
-- weekly rest or of the whole line, this is the same, since a weekly rest begins a work day too
abbrev pub ends_reduced : Minute → Minutes → Bool
ends_reduced m before =
    ends_daily m before && (not (has_run SPLIT_REST (work_day_of before))
    && (nat_lt (open_run before) REGULAR_DAILY_REST || nat_lt DAY_BEFORE_REST (length (work_day_of before) - open_run before)))

-- at how many minutes of a list a test holds
abbrev pub times : (Minute → Minutes → Bool) → Minutes → ℕ
times test [] = 0
times test (m ∷ before) = (if test m before then 1 else 0) + times test before

-- it ends a long work day that counts: one of more than 540 Drive minutes, where the minute before the rest is
-- a minute of the week (Art. 6(1)); `week` is what of the week lies before m, and `past` all before Monday
abbrev pub ends_long : Minutes → Minute → Minutes → Bool
ends_long past m week =
    ends_rest m (week ++ past) && (nat_lt DAY_DRIVE (count is_drive (work_day_of (week ++ past)))
    && nat_lt (open_run (week ++ past)) (length week))

-- the length of the last weekly rest that has ended, or what the history says (Art. 8(6))
abbrev pub last_weekly : ℕ → Minutes → ℕ
last_weekly known [] = known
last_weekly known (m ∷ before) = if ends_weekly m before then open_run before else last_weekly known before
