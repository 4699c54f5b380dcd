-- Which fields of a row lie outside their ranges.
use Rattle.std.specs.Prelude.{ℕ, ◌+◌, Bool, true, false, not, ◌&&◌, ◌||◌, ◌==◌, if◌then◌else◌, nat_le, int_le, ℤ, pos, Option, Some, None, List, [], ◌∷◌, map, filter_map}
use Rattle.std.specs.List.{list_all}
use Rattle.std.specs.Str.{bytes_eq}
use Rattle.minute_line.specs.declared.lines.TheConstants.{WEEK_MINUTES}
use Rattle.week_book.specs.declared.rows.Row.{Row}
use Rattle.week_book.specs.declared.rows.Row.TheVariants as row
use Rattle.week_book.specs.declared.rows.Word.{Word}
use Rattle.week_book.specs.declared.errors.WeekError.{WeekError}
use Rattle.week_book.specs.declared.errors.WeekError.TheVariants.{Range}
use Rattle.week_book.specs.Names.{is_name, is_among}
use Rattle.week_book.specs.Pasts.{is_off_word}
use Rattle.week_book.specs.Faults.{row_number, first_fault}

-- the number is from the first to the last
abbrev pub is_within : ℕ → ℕ → ℕ → Bool
is_within first last n = nat_le first n && nat_le n last

-- a minute of the week
abbrev pub is_week_minute : ℤ → Bool
is_week_minute minute = int_le (pos 0) minute && int_le minute (pos 10079)

-- an order's window closes in the week, and not before it opens
abbrev pub is_close_of : ℤ → ℤ → Bool
is_close_of opens closes = is_week_minute closes && int_le opens closes

-- minutes that acts after a rest may start at the multiples of
abbrev pub is_grid : ℕ → Bool
is_grid grid = (grid == 15) || ((grid == 30) || (grid == 60))

-- a leg leads to another place than it leaves
abbrev pub is_other_name : List ℕ → List ℕ → Bool
is_other_name from to = is_name to && not (bytes_eq from to)

-- the driver of a did row
abbrev pub did_name : Row → Option (List ℕ)
did_name (row.Did n driver mark minutes) = Some driver
did_name _ = None

-- the drivers of the did rows, one for each row
abbrev pub did_names : List Row → List (List ℕ)
did_names rows = filter_map did_name rows

-- the driver of a did row is one of those that have begun
abbrev pub has_begun : List (List ℕ) → Row → Bool
has_begun names (row.Did n driver mark minutes) = is_among names driver
has_begun names _ = false

-- a did row has no minute only where it is off and its driver's first
abbrev pub is_did_span : Bool → Word → ℕ → Bool
is_did_span begun mark minutes = nat_le minutes WEEK_MINUTES && (nat_le 1 minutes || (is_off_word mark && not begun))

-- for each field after a row's word, whether it is in its range; a did row's driver may have begun before
abbrev pub fields_in_range : Bool → Row → List Bool
fields_in_range begun (row.Week n monday load night grid) =
    true ∷ is_within 1 240 load ∷ nat_le night 1000000 ∷ is_grid grid ∷ []
fields_in_range begun (row.Place n name) = is_name name ∷ []
fields_in_range begun (row.Leg n from to minutes cents) =
    is_name from ∷ is_other_name from to ∷ is_within 1 270 minutes ∷ nat_le cents 1000000 ∷ []
fields_in_range begun (row.Driver n name capacity fee) = is_name name ∷ is_within 1 100000 capacity ∷ nat_le fee 10000000 ∷ []
fields_in_range begun (row.Rest n driver end minutes) = is_name driver ∷ int_le end (pos 0) ∷ is_within 1440 1000000 minutes ∷ []
fields_in_range begun (row.Worked n driver last weeks) = is_name driver ∷ nat_le last WEEK_MINUTES ∷ map (λ m. nat_le m WEEK_MINUTES) weeks
fields_in_range begun (row.Past n driver mark minutes) = is_name driver ∷ true ∷ is_within 1 2000000 minutes ∷ []
fields_in_range begun (row.Did n driver mark minutes) = is_name driver ∷ true ∷ is_did_span begun mark minutes ∷ []
fields_in_range begun (row.Order n name place opens closes service kg price) =
    is_name name ∷ is_name place ∷ is_week_minute opens ∷ is_close_of opens closes
    ∷ is_within 1 360 service ∷ nat_le kg 100000 ∷ nat_le price 100000000 ∷ []

-- the first field that is outside its range, of fields that count from the number given
abbrev pub first_outside : ℕ → ℕ → List Bool → Option WeekError
first_outside n field [] = None
first_outside n field (is_in ∷ others) = if is_in then first_outside n (field + 1) others else Some (Range n field)

-- the first field of a row that is outside its range, where these rows stand before it
abbrev pub range_of : List Row → Row → Option WeekError
range_of before r = first_outside (row_number r) 2 (fields_in_range (has_begun (did_names before) r) r)

-- the first field of all rows that is outside its range
abbrev pub range_fault : List Row → Option WeekError
range_fault rows = first_fault range_of [] rows

-- each field of a row is in its range, where a did row may be its driver's first
abbrev pub keeps_ranges : Row → Bool
keeps_ranges r = list_all (λ is_in. is_in) (fields_in_range false r)
