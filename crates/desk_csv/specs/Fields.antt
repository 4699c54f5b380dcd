-- What the fields of a record say, each with its fault.
use Rattle.std.specs.Prelude.{ℕ, zero, suc, ◌+◌, ◌*◌, ◌-◌, ℤ, ◌==◌, if◌then◌else◌, Option, Some, None, unwrap_or, Result, Ok, Err, List, [], ◌∷◌, length, codes}
use Rattle.std.specs.Option.{ok_or}
use Rattle.std.specs.Int.{is_in_range}
use Rattle.std.specs.Str.{bytes_eq}
use Rattle.csv.specs.Records.{field_at}
use Rattle.minute_line.specs.DateText.{text_day, stamp_minutes}
use Rattle.minute_line.specs.declared.dates.Monday.{Monday}
use Rattle.week_book.specs.declared.rows.Word.{Word}
use Rattle.week_book.specs.declared.rows.Word.TheVariants as word
use Rattle.desk_csv.specs.declared.errors.CsvError.{CsvError}
use Rattle.desk_csv.specs.declared.errors.CsvError.TheVariants as fault
use Rattle.desk_csv.specs.DateTests.{is_day_text, is_stamp_text, monday_of}

-- the fields of a record, each as its bytes
abbrev pub Record : Type 0
Record = List (List ℕ)

infixl 10 ◌>>=◌
-- what comes next, unless a fault was found
abbrev pub ◌>>=◌ : {A B : Type 0} → Result A CsvError → (A → Result B CsvError) → Result B CsvError
(Ok x) >>= next = next x
(Err e) >>= next = Err e

-- the field of that number, from 1, or no bytes where there is none
abbrev pub field : ℕ → Record → List ℕ
field n fields = unwrap_or (field_at fields (n - 1)) []

-- the record has n fields
unfoldable pub counted : ℕ → ℕ → Record → Result ℕ CsvError
counted row n fields = if length fields == n then Ok n else Err (fault.Fields row (length fields))

-- the number that digits continue
abbrev pub digits_from : ℕ → List ℕ → Option ℕ
digits_from n [] = Some n
digits_from n (b ∷ bs) = if is_in_range 48 57 b then digits_from (10 * n + (b - 48)) bs else None

-- a number is 1 to 10 ASCII digits
unfoldable pub digits_number : List ℕ → Option ℕ
digits_number text = if is_in_range 1 10 (length text) then digits_from 0 text else None

-- the number in a field
unfoldable pub number_at : ℕ → ℕ → Record → Result ℕ CsvError
number_at row n fields = ok_or (digits_number (field n fields)) (fault.Number row n)

-- the numbers in so many fields, from one on
unfoldable pub numbers_at : ℕ → ℕ → ℕ → Record → Result (List ℕ) CsvError
numbers_at row n zero fields = Ok []
numbers_at row n (suc more) fields =
    number_at row n fields >>= λ x. numbers_at row (n + 1) more fields >>= λ xs. Ok (x ∷ xs)

-- the mark word in a field
unfoldable pub word_at : ℕ → ℕ → Record → Result Word CsvError
word_at row n fields =
    if bytes_eq (field n fields) (codes "DRIVE") then Ok word.Drive
    else if bytes_eq (field n fields) (codes "WORK") then Ok word.Work
    else if bytes_eq (field n fields) (codes "READY") then Ok word.Ready
    else if bytes_eq (field n fields) (codes "OFF") then Ok word.Off
    else if bytes_eq (field n fields) (codes "DAILY") then Ok word.Daily
    else if bytes_eq (field n fields) (codes "WEEKLY") then Ok word.Weekly
    else Err (fault.Word row)

-- the Monday of a text
unfoldable pub monday_said : List ℕ → Option Monday
monday_said text = if is_day_text text then monday_of (text_day text) else None

-- the Monday in a field
unfoldable pub monday_at : ℕ → ℕ → Record → Result Monday CsvError
monday_at row n fields = ok_or (monday_said (field n fields)) (fault.Stamp row n)

-- the stamp in a field, in minutes from the day with this number
unfoldable pub stamp_at : ℤ → ℕ → ℕ → Record → Result ℤ CsvError
stamp_at day row n fields =
    if is_stamp_text (field n fields) then Ok (stamp_minutes day (field n fields)) else Err (fault.Stamp row n)
