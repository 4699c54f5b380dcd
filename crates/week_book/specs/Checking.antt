-- The week of a week text, or the first fault of the text.
use Rattle.std.specs.Prelude.{ℕ, Bool, true, false, if◌then◌else◌, nat_le, Option, Some, None, Result, Ok, Err, List, [], ◌∷◌, count_by, filter_map}
use Rattle.std.specs.List.{list_any}
use Rattle.std.specs.Option.{option_map_or}
use Rattle.week_book.specs.declared.rows.Row.{Row}
use Rattle.week_book.specs.declared.rows.Row.TheVariants as row
use Rattle.week_book.specs.declared.weeks.Week.{Week}
use Rattle.week_book.specs.declared.errors.What.{What}
use Rattle.week_book.specs.declared.errors.What.TheVariants.{Places, Legs, Drivers, Orders}
use Rattle.week_book.specs.declared.errors.WeekError.{WeekError}
use Rattle.week_book.specs.declared.errors.WeekError.TheVariants.{Count, NoDepot}
use Rattle.week_book.specs.Faults.{first_tried}
use Rattle.week_book.specs.Ranges.{range_fault}
use Rattle.week_book.specs.Keys.{double_fault}
use Rattle.week_book.specs.Numbers.{place_names, drivers_of, driver_names, leg_in, order_in, unknown_fault}

-- a row of that kind
abbrev pub is_of : What → Row → Bool
is_of Places (row.Place n name) = true
is_of Legs (row.Leg n from to minutes cents) = true
is_of Drivers (row.Driver n name capacity fee) = true
is_of Orders (row.Order n name place opens closes service kg price) = true
is_of _ _ = false

-- the most of a kind that a week may have
abbrev pub limit_of : What → ℕ
limit_of Places = 64
limit_of Legs = 1024
limit_of Drivers = 16
limit_of Orders = 120

-- so many of a kind are too many
abbrev pub too_many : What → ℕ → Option WeekError
too_many what n = if nat_le n (limit_of what) then None else Some (Count what n)

-- the rows of a kind are too many
abbrev pub count_fault : What → List Row → Option WeekError
count_fault what rows = too_many what (count_by (is_of what) rows)

-- the first kind of which there are too many
abbrev pub counts_fault : List Row → Option WeekError
counts_fault rows = first_tried (count_fault Places rows ∷ count_fault Legs rows ∷ count_fault Drivers rows
    ∷ count_fault Orders rows ∷ [])

-- there is no place row
abbrev pub depot_fault : List Row → Option WeekError
depot_fault rows = if list_any (is_of Places) rows then None else Some NoDepot

-- the first fault of a week text
abbrev pub fault_of : List Row → Option WeekError
fault_of rows = first_tried (counts_fault rows ∷ depot_fault rows ∷ range_fault rows ∷ double_fault rows
    ∷ unknown_fault (place_names rows) (driver_names rows) rows ∷ [])

-- the week of these rows, the first of which is the week row; other rows are those of no week text
abbrev pub week_made : List Row → List Row → Result Week WeekError
week_made rows (row.Week n monday load night grid ∷ rs) = Ok (record {
  monday = monday;
  load = load;
  night = night;
  grid = grid;
  places = place_names rows;
  legs = filter_map (leg_in (place_names rows)) rows;
  drivers = drivers_of rows;
  orders = filter_map (order_in (place_names rows)) rows;
})
week_made rows _ = Err NoDepot

-- the week of a week text, or its first fault
abbrev pub week_of : List Row → Result Week WeekError
week_of rows = option_map_or Err (fault_of rows) (week_made rows rows)
