-- The rows of a text, or its first fault.
use Rattle.std.specs.Prelude.{ℕ, ◌+◌, ℤ, Bool, true, ◌&&◌, ◌==◌, if◌then◌else◌, Option, Some, None, Result, Ok, Err, List, [], ◌∷◌, codes}
use Rattle.std.specs.Str.{bytes_eq, is_utf8}
use Rattle.std.specs.Str.Lossy.{utf8_valid_len}
use Rattle.csv.specs.Reading.{default_config, records, strip_bom}
use Rattle.minute_line.specs.declared.dates.Monday.{Monday}
use Rattle.week_book.specs.declared.rows.Row.{Row}
use Rattle.week_book.specs.Faults.{row_number}
use Rattle.week_book.specs.Texts.{are_week_rows, are_check_rows}
use Rattle.desk_csv.specs.declared.errors.Form.{Form}
use Rattle.desk_csv.specs.declared.errors.Form.TheVariants.{Plan, Check}
use Rattle.desk_csv.specs.declared.errors.CsvError.{CsvError}
use Rattle.desk_csv.specs.declared.errors.CsvError.TheVariants as fault
use Rattle.desk_csv.specs.Fields.{Record, ◌>>=◌, field, counted, monday_at}
use Rattle.desk_csv.specs.RowKinds.{row_at}

-- the records that csv reads from a text, after a byte order mark: each with its fields
abbrev pub records_of : List ℕ → List Record
records_of text = records default_config (strip_bom text)

-- the rows of records that are numbered from n, or the first fault of the first that has one
unfoldable pub rows_from : Form → ℤ → ℕ → List Record → Result (List Row) CsvError
rows_from form day n [] = Ok []
rows_from form day n (r ∷ rs) =
    row_at form day n r >>= λ row. rows_from form day (n + 1) rs >>= λ rows. Ok (row ∷ rows)

-- the Monday that the first record, a week row, begins with
unfoldable pub first_monday : List Record → Result Monday CsvError
first_monday [] = Err (fault.Word 1)
first_monday (r ∷ rs) =
    if bytes_eq (field 1 r) (codes "week") then (counted 1 5 r >>= λ count. monday_at 1 2 r) else Err (fault.Word 1)

-- the Monday that stamps count from: the one that was found, or that of this record, which is the first
abbrev pub monday_for : Option Monday → Record → Result Monday CsvError
monday_for (Some monday) r = Ok monday
monday_for None r = first_monday (r ∷ [])

-- the rows of all records, whose stamps count from the Monday of the first
unfoldable pub rows_in : Form → List Record → Result (List Row) CsvError
rows_in form rs = first_monday rs >>= λ monday. rows_from form monday.day 1 rs

-- the rows of a text: text that is no UTF-8 is refused first, by the length of its longest front that is
abbrev pub rows_of : Form → List ℕ → Result (List Row) CsvError
rows_of form text = if is_utf8 text then rows_in form (records_of text) else Err (fault.Utf8 (utf8_valid_len text))

-- the rows are those that a text of the form may have
abbrev pub are_rows : Form → List Row → Bool
are_rows Plan rows = are_week_rows rows
are_rows Check rows = are_check_rows rows

-- the rows are numbered from n
abbrev pub are_numbered : ℕ → List Row → Bool
are_numbered n [] = true
are_numbered n (r ∷ rs) = (row_number r == n) && are_numbered (n + 1) rs
