-- The row that a record says, or its first fault: its word, then the number of its fields, then its fields from the left.
use Rattle.std.specs.Prelude.{ℕ, ℤ, if◌then◌else◌, Result, Ok, Err, length, nat_lt, codes}
use Rattle.std.specs.Str.{bytes_eq}
use Rattle.week_book.specs.declared.rows.Row.{Row}
use Rattle.week_book.specs.declared.rows.Word.{Word}
use Rattle.week_book.specs.declared.rows.Row.TheVariants as row
use Rattle.desk_csv.specs.declared.errors.Form.{Form}
use Rattle.desk_csv.specs.declared.errors.Form.TheVariants.{Plan, Check}
use Rattle.desk_csv.specs.declared.errors.CsvError.{CsvError}
use Rattle.desk_csv.specs.declared.errors.CsvError.TheVariants as fault
use Rattle.desk_csv.specs.Fields.{Record, ◌>>=◌, field, counted, number_at, numbers_at, word_at, monday_at, stamp_at}

-- the first row of a text: its Monday, and how the week is loaded, paid and timed
unfoldable pub week_at : ℕ → Record → Result Row CsvError
week_at n fields = do
  count ← counted n 5 fields
  monday ← monday_at n 2 fields
  load ← number_at n 3 fields
  night ← number_at n 4 fields
  grid ← number_at n 5 fields
  Ok (row.Week n monday load night grid)

-- a place
unfoldable pub place_at : ℕ → Record → Result Row CsvError
place_at n fields = do
  count ← counted n 2 fields
  Ok (row.Place n (field 2 fields))

-- a road from a place to a place
unfoldable pub leg_at : ℕ → Record → Result Row CsvError
leg_at n fields = do
  count ← counted n 5 fields
  minutes ← number_at n 4 fields
  cents ← number_at n 5 fields
  Ok (row.Leg n (field 2 fields) (field 3 fields) minutes cents)

-- a driver and the driver's vehicle
unfoldable pub driver_at : ℕ → Record → Result Row CsvError
driver_at n fields = do
  count ← counted n 4 fields
  capacity ← number_at n 3 fields
  fee ← number_at n 4 fields
  Ok (row.Driver n (field 2 fields) capacity fee)

-- a driver's last weekly rest
unfoldable pub rest_at : ℤ → ℕ → Record → Result Row CsvError
rest_at day n fields = do
  count ← counted n 4 fields
  end ← stamp_at day n 3 fields
  minutes ← number_at n 4 fields
  Ok (row.Rest n (field 2 fields) end minutes)

-- what a driver did in the weeks before
unfoldable pub worked_at : ℕ → Record → Result Row CsvError
worked_at n fields = do
  count ← counted n 19 fields
  last ← number_at n 3 fields
  weeks ← numbers_at n 4 16 fields
  Ok (row.Worked n (field 2 fields) last weeks)

-- the mark word of field 3 is tried before the number of fields, where there are three
unfoldable pub marked_at : ℕ → Record → Result Word CsvError
marked_at n fields =
    if nat_lt (length fields) 3 then Err (fault.Fields n (length fields)) else do
      word ← word_at n 3 fields
      count ← counted n 4 fields
      Ok word

-- a mark of the days before Monday
unfoldable pub past_at : ℕ → Record → Result Row CsvError
past_at n fields = do
  word ← marked_at n fields
  minutes ← number_at n 4 fields
  Ok (row.Past n (field 2 fields) word minutes)

-- a mark of the week itself
unfoldable pub did_at : ℕ → Record → Result Row CsvError
did_at n fields = do
  word ← marked_at n fields
  minutes ← number_at n 4 fields
  Ok (row.Did n (field 2 fields) word minutes)

-- a delivery
unfoldable pub order_at : ℤ → ℕ → Record → Result Row CsvError
order_at day n fields = do
  count ← counted n 8 fields
  opens ← stamp_at day n 4 fields
  closes ← stamp_at day n 5 fields
  service ← number_at n 6 fields
  kg ← number_at n 7 fields
  price ← number_at n 8 fields
  Ok (row.Order n (field 2 fields) (field 3 fields) opens closes service kg price)

-- the words that one form alone has
unfoldable pub own_row_at : Form → ℤ → ℕ → Record → Result Row CsvError
own_row_at Plan day n fields =
    if bytes_eq (field 1 fields) (codes "place") then place_at n fields
    else if bytes_eq (field 1 fields) (codes "leg") then leg_at n fields
    else if bytes_eq (field 1 fields) (codes "driver") then driver_at n fields
    else if bytes_eq (field 1 fields) (codes "order") then order_at day n fields
    else Err (fault.Word n)
own_row_at Check day n fields =
    if bytes_eq (field 1 fields) (codes "did") then did_at n fields else Err (fault.Word n)

-- the row that a record says by its word, in a text of that form
unfoldable pub row_at : Form → ℤ → ℕ → Record → Result Row CsvError
row_at form day n fields =
    if bytes_eq (field 1 fields) (codes "week") then week_at n fields
    else if bytes_eq (field 1 fields) (codes "rest") then rest_at day n fields
    else if bytes_eq (field 1 fields) (codes "worked") then worked_at n fields
    else if bytes_eq (field 1 fields) (codes "past") then past_at n fields
    else own_row_at form day n fields
