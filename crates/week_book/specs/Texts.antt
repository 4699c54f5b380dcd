-- Which rows a week text has, and which a check text.
use Rattle.std.specs.Prelude.{Bool, true, false, ◌&&◌, List, [], ◌∷◌}
use Rattle.std.specs.List.{list_all}
use Rattle.week_book.specs.declared.rows.Row.{Row}
use Rattle.week_book.specs.declared.rows.Row.TheVariants.{Week, Place, Leg, Driver, Did, Order}

-- a week row
abbrev pub is_week : Row → Bool
is_week (Week row monday load night grid) = true
is_week _ = false

-- a row that a week text may have
abbrev pub is_planned : Row → Bool
is_planned (Did row driver said minutes) = false
is_planned _ = true

-- a row that a check text may have
abbrev pub is_checked : Row → Bool
is_checked (Place row name) = false
is_checked (Leg row from to minutes cents) = false
is_checked (Driver row name capacity fee) = false
is_checked (Order row name place opens closes service kg price) = false
is_checked _ = true

-- the first row is a week row
abbrev pub begins_with_week : List Row → Bool
begins_with_week [] = false
begins_with_week (r ∷ rs) = is_week r

-- the rows of a week text
abbrev pub are_week_rows : List Row → Bool
are_week_rows rows = begins_with_week rows && list_all is_planned rows

-- the rows of a check text
abbrev pub are_check_rows : List Row → Bool
are_check_rows rows = begins_with_week rows && list_all is_checked rows
