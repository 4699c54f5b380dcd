-- Which rows say again what a row before them has said.
use Rattle.std.specs.Prelude.{ℕ, if◌then◌else◌, Option, Some, None, option_map, List, [], ◌∷◌, ◌++◌, filter_map}
use Rattle.week_book.specs.declared.rows.Row.{Row}
use Rattle.week_book.specs.declared.rows.Row.TheVariants as row
use Rattle.week_book.specs.declared.keys.Keyed.{Keyed}
use Rattle.week_book.specs.declared.errors.WeekError.{WeekError}
use Rattle.week_book.specs.declared.errors.WeekError.TheVariants.{Double}
use Rattle.week_book.specs.Names.{is_among}
use Rattle.week_book.specs.Faults.{row_number, first_fault}

-- what a text may say once: its kind, and the names; between a leg's ends stands a comma, which no name has
abbrev pub key_of : Row → Option (List ℕ)
key_of (row.Week n monday load night grid) = Some (0 ∷ [])
key_of (row.Place n name) = Some (1 ∷ name)
key_of (row.Leg n from to minutes cents) = Some (2 ∷ (from ++ (44 ∷ to)))
key_of (row.Driver n name capacity fee) = Some (3 ∷ name)
key_of (row.Rest n driver end minutes) = Some (4 ∷ driver)
key_of (row.Worked n driver last weeks) = Some (5 ∷ driver)
key_of (row.Order n name place opens closes service kg price) = Some (6 ∷ name)
key_of (row.Past n driver mark minutes) = None
key_of (row.Did n driver mark minutes) = None

-- a row is a double where a row before it has its key
abbrev pub double_of : List Row → Row → Option WeekError
double_of before r = said (key_of r)
  where
    said : Option (List ℕ) → Option WeekError
    said None = None
    said (Some key) = if is_among (filter_map key_of before) key then Some (Double (row_number r)) else None

-- the first double of all rows
abbrev pub double_fault : List Row → Option WeekError
double_fault rows = first_fault double_of [] rows

-- the key of a row that has one, with the row's number
abbrev pub keyed_of : Row → Option Keyed
keyed_of r = option_map (λ key. record { row = row_number r; key = key }) (key_of r)

-- the row of the first key that is one of those before it
abbrev pub repeat_after : List (List ℕ) → List Keyed → Option ℕ
repeat_after before [] = None
repeat_after before (k ∷ ks) = if is_among before k.key then Some k.row else repeat_after (before ++ k.key ∷ []) ks
