-- The drivers of a check text, or the first fault of the text.
use Rattle.std.specs.Prelude.{ℕ, if◌then◌else◌, Option, Result, Ok, Err, List, [], ◌∷◌, ◌++◌, length, fold}
use Rattle.std.specs.Option.{option_map_or}
use Rattle.week_book.specs.declared.rows.Row.{Row}
use Rattle.week_book.specs.declared.rows.Row.TheVariants as row
use Rattle.week_book.specs.declared.errors.What.TheVariants.{Drivers}
use Rattle.week_book.specs.declared.errors.WeekError.{WeekError}
use Rattle.week_book.specs.Names.{is_among}
use Rattle.week_book.specs.Faults.{first_tried}
use Rattle.week_book.specs.Ranges.{range_fault}
use Rattle.week_book.specs.Keys.{double_fault}
use Rattle.week_book.specs.Numbers.{unknown_drivers}
use Rattle.week_book.specs.Checking.{too_many}

-- one more name, unless it is there
abbrev pub with_name : List (List ℕ) → List ℕ → List (List ℕ)
with_name names name = if is_among names name then names else names ++ name ∷ []

-- the drivers so far, and that of a did row
abbrev pub meet : List (List ℕ) → Row → List (List ℕ)
meet names (row.Did n driver mark minutes) = with_name names driver
meet names _ = names

-- the drivers of the did rows, in the order in which each first appears
abbrev pub driven : List Row → List (List ℕ)
driven rows = fold meet [] rows

-- the first fault of a check text
abbrev pub did_fault : List Row → Option WeekError
did_fault rows = first_tried (too_many Drivers (length (driven rows)) ∷ range_fault rows ∷ double_fault rows
    ∷ unknown_drivers (driven rows) rows ∷ [])

-- the drivers of a check text, or its first fault
abbrev pub did_of : List Row → Result (List (List ℕ)) WeekError
did_of rows = option_map_or Err (did_fault rows) (Ok (driven rows))
