-- The history and the week's line that a driver's rows say.
use Rattle.std.specs.Prelude.{ℕ, ◌-◌, Bool, true, false, ◌&&◌, if◌then◌else◌, nat_le, nat_eq, unsigned_abs, List, [], ◌∷◌, length, map, fold, sum_by, Option, Some, None, Result, Ok, Err, option_map, slice_get}
use Rattle.std.specs.Option.{option_or, option_map_or}
use Rattle.minute_line.specs.declared.marks.Mark.TheVariants as mark
use Rattle.minute_line.specs.declared.marks.Kind.TheVariants.{Plain, Daily, Weekly}
use Rattle.minute_line.specs.declared.marks.Stint.{Stint}
use Rattle.minute_line.specs.declared.lines.TheConstants.{WEEK_MINUTES}
use Rattle.minute_line.specs.Histories.{Fields}
use Rattle.minute_line.specs.Debts.{with_rest_debt}
use Rattle.week_book.specs.declared.rows.Row.{Row}
use Rattle.week_book.specs.declared.rows.Word.{Word}
use Rattle.week_book.specs.declared.rows.Word.TheVariants as word
use Rattle.week_book.specs.Pasts.{Activity, Rested, PastWorkingTime, past_activities, did_activities, rests_of, past_working_times_of, is_off_word}
use Rattle.driver_history.specs.declared.errors.HistoryError.{HistoryError}
use Rattle.driver_history.specs.declared.errors.HistoryError.TheVariants as past_error
use Rattle.driver_history.specs.declared.errors.LineError.{LineError}
use Rattle.driver_history.specs.declared.errors.LineError.TheVariants as line_error
use Rattle.minute_line.specs.declared.lines.TheConstants.{PAST_LIMIT}
use Rattle.driver_history.specs.Carrying.{duty, rest, no_line, carry, fields_left}

-- the stint of so many minutes that a mark word says
abbrev pub stint_by : Word → ℕ → Stint
stint_by word.Drive minutes = duty mark.Drive minutes
stint_by word.Work minutes = duty mark.Work minutes
stint_by word.Ready minutes = duty mark.Ready minutes
stint_by word.Off minutes = rest minutes Plain
stint_by word.Daily minutes = rest minutes Daily
stint_by word.Weekly minutes = rest minutes Weekly

-- the stint that a row says
abbrev pub stint_said : Activity → Stint
stint_said s = stint_by s.word s.minutes

-- the word of a weekly rest
abbrev pub is_weekly_word : Word → Bool
is_weekly_word word.Weekly = true
is_weekly_word _ = false

-- the first WEEKLY row that another row follows
abbrev pub late_weekly : List Activity → Option ℕ
late_weekly [] = None
late_weekly (s ∷ ss) = if is_weekly_word s.word && nat_le 1 (length ss) then Some s.row else late_weekly ss

-- the first off row that stands right after another; `after_off` says that one is before them all
abbrev pub second_off : Bool → List Activity → Option ℕ
second_off after_off [] = None
second_off after_off (s ∷ ss) = if after_off && is_off_word s.word then Some s.row else second_off (is_off_word s.word) ss

-- the minutes of some rows
abbrev pub minutes_said : List Activity → ℕ
minutes_said activities = sum_by (λ s. s.minutes) activities

-- the minutes of a row that is off, and none of another
abbrev pub off_in : Activity → ℕ
off_in s = if is_off_word s.word then s.minutes else 0

-- the minutes of the off row at their end
abbrev pub trailing_off : List Activity → ℕ
trailing_off activities = option_map_or off_in (slice_get activities (length activities - 1)) 0

-- the minutes of the rows before that off row
abbrev pub minutes_before : List Activity → ℕ
minutes_before activities = minutes_said activities - trailing_off activities

-- the minutes from the end of the last weekly rest to Monday
abbrev pub minutes_needed : Rested → ℕ
minutes_needed rested = unsigned_abs rested.end

-- past rows reach from the rest to Monday, and a history can state them
abbrev pub sum_fault : Rested → List Activity → Option HistoryError
sum_fault rested activities =
    if nat_eq (minutes_said activities) (minutes_needed rested)
    then (if nat_le (minutes_before activities) PAST_LIMIT then None else Some (past_error.OverLong (minutes_before activities)))
    else Some (past_error.NotToMonday (minutes_said activities) (minutes_needed rested))

-- why a driver's past rows make no history after a rest, the first cause in its order
abbrev pub past_fault : Rested → List Activity → Option HistoryError
past_fault rested activities =
    option_or (option_map past_error.LateWeekly (late_weekly activities))
    (option_or (option_map past_error.TwoOffs (second_off false activities)) (sum_fault rested activities))

-- the history that a driver's rows make: past rows carried on from the end of the rest, and the debt that it left
abbrev pub history_by : Rested → PastWorkingTime → List Activity → Fields
history_by rested past_work activities =
    with_rest_debt rested.minutes (minutes_needed rested)
    (fields_left (fold carry (no_line rested.minutes) (map stint_said activities)) past_work.last past_work.weeks)

-- the history of a driver with a rest row and a worked row, unless there is a cause against it
abbrev pub history_said : Rested → PastWorkingTime → List Activity → Result Fields HistoryError
history_said rested past_work activities = option_map_or Err (past_fault rested activities) (Ok (history_by rested past_work activities))

-- a history that is there
abbrev pub some_history : Result Fields HistoryError → Result (Option Fields) HistoryError
some_history (Ok fields) = Ok (Some fields)
some_history (Err fault) = Err fault

-- no history without rows; a rest row, and a worked row, where there is any
abbrev pub by_rows : Option Rested → Option PastWorkingTime → List Activity → Result (Option Fields) HistoryError
by_rows None None [] = Ok None
by_rows None _ _ = Err past_error.NoRest
by_rows (Some rested) None activities = Err past_error.NoWorked
by_rows (Some rested) (Some past_work) activities = some_history (history_said rested past_work activities)

-- the history that the rows say of the driver of this name
abbrev pub past_said : List ℕ → List Row → Result (Option Fields) HistoryError
past_said name rows = by_rows (slice_get (rests_of name rows) 0) (slice_get (past_working_times_of name rows) 0) (past_activities name rows)

-- a line of at most a week
abbrev pub line_within : List Activity → Result (List Stint) LineError
line_within activities = if nat_le (minutes_said activities) WEEK_MINUTES then Ok (map stint_said activities) else Err (line_error.TooLong (minutes_said activities))

-- the week's line that the rows say of the driver of this name, one stint a row and no two off rows side by side
abbrev pub line_said : List ℕ → List Row → Result (List Stint) LineError
line_said name rows =
    option_map_or (λ row. Err (line_error.TwoOffs row)) (second_off false (did_activities name rows)) (line_within (did_activities name rows))
