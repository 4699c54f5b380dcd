-- The first fault of a list of rows, in the order of the rows.
use Rattle.std.specs.Prelude.{◌≡◌, ◌≢◌, ℕ, Option, Some, None, Result, Ok, Err, List, [], ◌∷◌, ◌++◌}
use Rattle.std.specs.Option.{option_or}
use Rattle.week_book.specs.declared.rows.Row.{Row}
use Rattle.week_book.specs.declared.rows.Row.TheVariants as row
use Rattle.week_book.specs.declared.errors.WeekError.{WeekError}
use Rattle.week_book.specs.declared.errors.WeekError.TheVariants.{Memory}

-- the number that a row has in its text
abbrev pub row_number : Row → ℕ
row_number (row.Week n monday load night grid) = n
row_number (row.Place n name) = n
row_number (row.Leg n from to minutes cents) = n
row_number (row.Driver n name capacity fee) = n
row_number (row.Rest n driver end minutes) = n
row_number (row.Worked n driver last weeks) = n
row_number (row.Past n driver mark minutes) = n
row_number (row.Did n driver mark minutes) = n
row_number (row.Order n name place opens closes service kg price) = n

-- the first fault, where a row's fault may rest on the rows that stand before it
abbrev pub first_fault : (List Row → Row → Option WeekError) → List Row → List Row → Option WeekError
first_fault fault before [] = None
first_fault fault before (r ∷ rs) = option_or (fault before r) (first_fault fault (before ++ r ∷ []) rs)

-- the first fault, where a row's fault is its own
abbrev pub first_of : (Row → Option WeekError) → List Row → Option WeekError
first_of fault [] = None
first_of fault (r ∷ rs) = option_or (fault r) (first_of fault rs)

-- the first of some faults, in the order in which they are tried
abbrev pub first_tried : List (Option WeekError) → Option WeekError
first_tried [] = None
first_tried (fault ∷ faults) = option_or fault (first_tried faults)

-- a test passed exactly where there is no such fault, or found it, or memory was wanted
abbrev pub Passes : {A : Type 0} → Result A WeekError → Option WeekError → Type 0
Passes (Ok value) fault = fault ≡ None
Passes (Err error) fault = error ≢ Memory → fault ≡ Some error

-- a fault of one of the rows, where no row before it has one
pub record IsFirst (fault : List Row → Row → Option WeekError) (before rows : List Row) (e : WeekError) : Type 0 where
  pub earlier : List Row
  pub here : Row
  pub later : List Row
  pub split : rows ≡ earlier ++ here ∷ later
  pub is : fault (before ++ earlier) here ≡ Some e
  pub none : first_fault fault before earlier ≡ None
