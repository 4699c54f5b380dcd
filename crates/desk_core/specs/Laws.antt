-- Laws on the histories of a week text and on the lines of a check, in the words of the desk.
use Rattle.std.specs.Prelude.{◌≡◌, ℕ, ◌<◌, List, [], length, slice_get, Option, Some, None, Ok, Err, IsOk}
use Rattle.std.specs.List.{concat}
use Rattle.minute_line.specs.Histories.{Fields}
use Rattle.minute_line.specs.declared.marks.Stint.{Stint}
use Rattle.week_book.specs.declared.rows.Row.{Row}
use Rattle.week_book.specs.declared.weeks.Driver.{Driver}
use Rattle.driver_history.specs.declared.errors.HistoryError.{HistoryError}
use Rattle.desk_core.specs.declared.refusals.Refusal.TheVariants as because
use Rattle.desk_core.specs.Planning.{past_or_refusal, histories_said}
use Rattle.desk_core.specs.Checking.{or_fresh, line_or_refusal, verdict_said, verdict_line, drivers_said}

-- the history rows of these drivers are refused for none of them
abbrev pub EachIsRead : List Row → List Driver → Type 0
EachIsRead rows drivers = (k : ℕ) (driver : Driver) → slice_get drivers k ≡ Some driver → IsOk (past_or_refusal rows driver.name)

-- history k is what the rows of driver k make
abbrev pub AreTheirs : List Row → List Driver → List Fields → Type 0
AreTheirs rows drivers past = (k : ℕ) (driver : Driver) (history : Fields) → slice_get drivers k ≡ Some driver
    → slice_get past k ≡ Some history → past_or_refusal rows driver.name ≡ Ok (Some history)

-- histories that are accepted are one a driver, each what that driver's rows make
abbrev pub EachHasItsHistory : Type 0
EachHasItsHistory = (rows : List Row) (drivers : List Driver) (past : List Fields) → histories_said rows drivers ≡ Ok past
    → (length past ≡ length drivers) × AreTheirs rows drivers past

-- the driver of that name is the first who has no history rows
pub record IsFirstWithout (rows : List Row) (drivers : List Driver) (name : List ℕ) : Type 0 where
  pub number : ℕ
  pub driver : Driver
  pub there : slice_get drivers number ≡ Some driver
  pub named : driver.name ≡ name
  pub without : past_or_refusal rows name ≡ Ok None
  pub before : (k : ℕ) (other : Driver) → k < number → slice_get drivers k ≡ Some other
      → (history : Fields) × (past_or_refusal rows other.name ≡ Ok (Some history))

-- a missing history names the first driver who has none, once all drivers' rows were read
abbrev pub FirstWithoutIsNamed : Type 0
FirstWithoutIsNamed = (rows : List Row) (drivers : List Driver) (name : List ℕ)
    → histories_said rows drivers ≡ Err (because.NoHistory name) → IsFirstWithout rows drivers name × EachIsRead rows drivers

-- the driver of that name is the first whose rows make no history, for this cause
pub record IsFirstRefused (rows : List Row) (drivers : List Driver) (name : List ℕ) (error : HistoryError) : Type 0 where
  pub number : ℕ
  pub driver : Driver
  pub there : slice_get drivers number ≡ Some driver
  pub named : driver.name ≡ name
  pub refused : past_or_refusal rows name ≡ Err (because.Past name error)
  pub before : (k : ℕ) (other : Driver) → k < number → slice_get drivers k ≡ Some other → IsOk (past_or_refusal rows other.name)

-- rows that make no history are refused at the first driver who has such rows
abbrev pub FirstRefusedIsTold : Type 0
FirstRefusedIsTold = (rows : List Row) (drivers : List Driver) (name : List ℕ) (error : HistoryError)
    → histories_said rows drivers ≡ Err (because.Past name error) → IsFirstRefused rows drivers name error

-- a line is the judge's verdict on what the driver's rows say, after the history that they make
pub record IsVerdictOn (rows : List Row) (name line : List ℕ) : Type 0 where
  pub past : Option Fields
  pub before : past_or_refusal rows name ≡ Ok past
  pub stints : List Stint
  pub driven : line_or_refusal rows name ≡ Ok stints
  pub told : line ≡ verdict_line [] name (verdict_said (or_fresh past) stints)

-- a text is one line a driver, and line k is the verdict on driver k
pub record AreVerdicts (rows : List Row) (names : List (List ℕ)) (text : List ℕ) : Type 0 where
  pub lines : List (List ℕ)
  pub told : text ≡ concat lines
  pub each : length lines ≡ length names
  pub verdicts : (k : ℕ) (name line : List ℕ) → slice_get names k ≡ Some name → slice_get lines k ≡ Some line → IsVerdictOn rows name line

-- what a check tells is the verdict on each driver, in their order
abbrev pub LinesAreVerdicts : Type 0
LinesAreVerdicts = (rows : List Row) (names : List (List ℕ)) (text : List ℕ) → drivers_said rows [] names ≡ Ok text → AreVerdicts rows names text
