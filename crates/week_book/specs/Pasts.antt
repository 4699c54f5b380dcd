-- What of a text's rows the histories and driven lines of its drivers rest on.
use Rattle.std.specs.Prelude.{◌≡◌, ℕ, ◌≤◌, Bool, true, false, ◌&&◌, if◌then◌else◌, nat_le, int_le, pos, ℤ, List, [], ◌∷◌, length, Option, Some, None}
use Rattle.std.specs.List.{filter_map, list_all}
use Rattle.std.specs.Str.{bytes_eq}
use Rattle.minute_line.specs.declared.lines.TheConstants.{WEEK_MINUTES}
use Rattle.minute_line.specs.Stints.{all_up_to}
use Rattle.week_book.specs.declared.rows.Row.{Row}
use Rattle.week_book.specs.declared.rows.Row.TheVariants.{Rest, Worked, Past, Did}
use Rattle.week_book.specs.declared.rows.Word.{Word}
use Rattle.week_book.specs.declared.rows.Word.TheVariants as word

-- a mark word with its minutes, and the row that has them
pub record Activity : Type 0 where
  pub row : ℕ
  pub word : Word
  pub minutes : ℕ

-- the end of a driver's last weekly rest, in minutes from Monday, and its length
pub record Rested : Type 0 where
  pub end : ℤ
  pub minutes : ℕ

-- a driver's Drive minutes of last week, and the working minutes of the sixteen weeks before
pub record PastWorkingTime : Type 0 where
  pub last : ℕ
  pub weeks : List ℕ

-- what a past row says of the driver of this name
abbrev pub past_activity : List ℕ → Row → Option Activity
past_activity name (Past row driver w minutes) = if bytes_eq driver name then Some (record { row = row; word = w; minutes = minutes }) else None
past_activity name _ = None

-- what a did row says of the driver
abbrev pub did_activity : List ℕ → Row → Option Activity
did_activity name (Did row driver w minutes) = if bytes_eq driver name then Some (record { row = row; word = w; minutes = minutes }) else None
did_activity name _ = None

-- what a rest row says of the driver
abbrev pub rest_said : List ℕ → Row → Option Rested
rest_said name (Rest row driver end minutes) = if bytes_eq driver name then Some (record { end = end; minutes = minutes }) else None
rest_said name _ = None

-- what a worked row says of the driver
abbrev pub past_working_time : List ℕ → Row → Option PastWorkingTime
past_working_time name (Worked row driver last weeks) = if bytes_eq driver name then Some (record { last = last; weeks = weeks }) else None
past_working_time name _ = None

-- the past rows of a driver, in order
abbrev pub past_activities : List ℕ → List Row → List Activity
past_activities name rows = filter_map (past_activity name) rows

-- the did rows of a driver, in order
abbrev pub did_activities : List ℕ → List Row → List Activity
did_activities name rows = filter_map (did_activity name) rows

-- the rest rows of a driver, in order
abbrev pub rests_of : List ℕ → List Row → List Rested
rests_of name rows = filter_map (rest_said name) rows

-- the worked rows of a driver, in order
abbrev pub past_working_times_of : List ℕ → List Row → List PastWorkingTime
past_working_times_of name rows = filter_map (past_working_time name) rows

-- OFF, DAILY and WEEKLY are off
abbrev pub is_off_word : Word → Bool
is_off_word word.Off = true
is_off_word word.Daily = true
is_off_word word.Weekly = true
is_off_word word.Drive = false
is_off_word word.Work = false
is_off_word word.Ready = false

-- a history row or a did row keeps the ranges of its own fields
abbrev pub in_past_range : Row → Bool
in_past_range (Rest row driver end minutes) = int_le end (pos 0) && (nat_le 1440 minutes && nat_le minutes 1000000)
in_past_range (Worked row driver last weeks) = nat_le last WEEK_MINUTES && all_up_to WEEK_MINUTES weeks
in_past_range (Past row driver w minutes) = nat_le 1 minutes && nat_le minutes 2000000
in_past_range (Did row driver w minutes) = nat_le minutes WEEK_MINUTES
in_past_range _ = true

-- each has a minute
abbrev pub each_lasts : List Activity → Bool
each_lasts [] = true
each_lasts (s ∷ ss) = nat_le 1 s.minutes && each_lasts ss

-- each has a minute, but for a first one that is off
abbrev pub zero_first : List Activity → Bool
zero_first [] = true
zero_first (s ∷ ss) = (if is_off_word s.word then true else nat_le 1 s.minutes) && each_lasts ss

-- rows whose history rows and did rows are in range, with at most one rest row and one worked row of a driver
pub record HasPastRows (rows : List Row) : Type 0 where
  pub few : length rows ≤ 1048576
  pub ranges : list_all in_past_range rows ≡ true
  pub rests : (name : List ℕ) → length (rests_of name rows) ≤ 1
  pub past_works : (name : List ℕ) → length (past_working_times_of name rows) ≤ 1
  pub zeros : (name : List ℕ) → zero_first (did_activities name rows) ≡ true
