-- What each row adds to a week, with numbers for names, and which names no row defines.
use Rattle.std.specs.Prelude.{ℕ, nat_abs, if◌then◌else◌, Option, Some, None, List, [], ◌∷◌, map, filter_map}
use Rattle.std.specs.Option.{option_or, unwrap_or}
use Rattle.week_book.specs.declared.rows.Row.{Row}
use Rattle.week_book.specs.declared.rows.Row.TheVariants as row
use Rattle.week_book.specs.declared.weeks.Leg.{Leg}
use Rattle.week_book.specs.declared.weeks.Order.{Order}
use Rattle.week_book.specs.declared.weeks.Driver.{Driver}
use Rattle.week_book.specs.declared.errors.WeekError.{WeekError}
use Rattle.week_book.specs.declared.errors.WeekError.TheVariants.{Unknown}
use Rattle.week_book.specs.Names.{is_among, number_of}
use Rattle.week_book.specs.Faults.{first_of, first_tried}

-- the place of a place row
abbrev pub place_in : Row → Option (List ℕ)
place_in (row.Place n name) = Some name
place_in _ = None

-- the driver of a driver row
abbrev pub driver_in : Row → Option Driver
driver_in (row.Driver n name capacity fee) = Some (record { name = name; capacity = capacity; fee = fee })
driver_in _ = None

-- the number of a name that is one of the names
abbrev pub numbered : List (List ℕ) → List ℕ → ℕ
numbered names name = unwrap_or (number_of names name) 0

-- the leg of a leg row, its ends numbered
abbrev pub leg_in : List (List ℕ) → Row → Option Leg
leg_in places (row.Leg n from to minutes cents) =
    Some (record { from = numbered places from; to = numbered places to; minutes = minutes; cents = cents })
leg_in places _ = None

-- the order of an order row, its place numbered
abbrev pub order_in : List (List ℕ) → Row → Option Order
order_in places (row.Order n name place opens closes service kg price) =
    Some (record {
      name = name;
      place = numbered places place;
      opens = nat_abs opens;
      closes = nat_abs closes;
      service = service;
      kg = kg;
      price = price;
    })
order_in places _ = None

-- the places of a text, in the order of their rows
abbrev pub place_names : List Row → List (List ℕ)
place_names rows = filter_map place_in rows

-- the drivers of a text, in the order of their rows
abbrev pub drivers_of : List Row → List Driver
drivers_of rows = filter_map driver_in rows

-- the names of the drivers of a text, in the order of their rows
abbrev pub driver_names : List Row → List (List ℕ)
driver_names rows = map (λ driver. driver.name) (drivers_of rows)

-- a name that is none of the names, in that field of that row
abbrev pub unknown_name : List (List ℕ) → ℕ → ℕ → List ℕ → Option WeekError
unknown_name names n field name = if is_among names name then None else Some (Unknown n field)

-- the driver that a row of a history names, where it is none of the drivers
abbrev pub unknown_driver : List (List ℕ) → Row → Option WeekError
unknown_driver drivers (row.Rest n driver end minutes) = unknown_name drivers n 2 driver
unknown_driver drivers (row.Worked n driver last weeks) = unknown_name drivers n 2 driver
unknown_driver drivers (row.Past n driver mark minutes) = unknown_name drivers n 2 driver
unknown_driver drivers _ = None

-- the first end of a leg that is none of the places
abbrev pub unknown_end : List (List ℕ) → Row → Option WeekError
unknown_end places (row.Leg n from to minutes cents) = option_or (unknown_name places n 2 from) (unknown_name places n 3 to)
unknown_end places _ = None

-- the place of an order, where it is none of the places
abbrev pub unknown_place : List (List ℕ) → Row → Option WeekError
unknown_place places (row.Order n name place opens closes service kg price) = unknown_name places n 3 place
unknown_place places _ = None

-- the first name of a row that is none of the places or none of the drivers that it has to be of
abbrev pub unknown_of : List (List ℕ) → List (List ℕ) → Row → Option WeekError
unknown_of places drivers r = first_tried (unknown_driver drivers r ∷ unknown_end places r ∷ unknown_place places r ∷ [])

-- the first driver of all rows that is none of the drivers
abbrev pub unknown_drivers : List (List ℕ) → List Row → Option WeekError
unknown_drivers drivers rows = first_of (unknown_driver drivers) rows

-- the first name of all rows that no row defines
abbrev pub unknown_fault : List (List ℕ) → List (List ℕ) → List Row → Option WeekError
unknown_fault places drivers rows = first_of (unknown_of places drivers) rows
