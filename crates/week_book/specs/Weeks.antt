-- What the numbers of a week name, and which weeks are checked ones.
use Rattle.std.specs.Prelude.{◌≡◌, ◌≢◌, ℕ, ◌<◌, ◌≤◌, Bool, true, ◌&&◌, ◌==◌, ◌⊎◌, List, length, map, Option, find, slice_get, All}
use Rattle.std.specs.List.{IsDistinct}
use Rattle.std.specs.Str.{bytes_eq}
use Rattle.week_book.specs.declared.weeks.Leg.{Leg}
use Rattle.week_book.specs.declared.weeks.Order.{Order}
use Rattle.week_book.specs.declared.weeks.Driver.{Driver}
use Rattle.week_book.specs.declared.weeks.Week.{Week}
use Rattle.week_book.specs.Names.{is_name}

-- the road from one place to another, or none
abbrev pub road : Week → ℕ → ℕ → Option Leg
road week from to = find (λ leg. (leg.from == from) && (leg.to == to)) week.legs

-- the order of that number
abbrev pub order_of : Week → ℕ → Option Order
order_of week order = slice_get week.orders order

-- the driver of that number
abbrev pub driver_of : Week → ℕ → Option Driver
driver_of week driver = slice_get week.drivers driver

-- a leg joins two places of the week, and keeps its ranges
pub record IsLeg (places : ℕ) (leg : Leg) : Type 0 where
  pub from : leg.from < places
  pub to : leg.to < places
  pub apart : leg.from ≢ leg.to
  pub minutes : (1 ≤ leg.minutes) × (leg.minutes ≤ 270)
  pub cents : leg.cents ≤ 1000000

-- a driver keeps the ranges
pub record IsDriver (driver : Driver) : Type 0 where
  pub capacity : (1 ≤ driver.capacity) × (driver.capacity ≤ 100000)
  pub fee : driver.fee ≤ 10000000

-- an order is at a place of the week, and keeps its ranges
pub record IsOrder (places : ℕ) (order : Order) : Type 0 where
  pub place : order.place < places
  pub window : (order.opens ≤ order.closes) × (order.closes ≤ 10079)
  pub service : (1 ≤ order.service) × (order.service ≤ 360)
  pub kg : order.kg ≤ 100000
  pub price : order.price ≤ 100000000

-- the names of a kind: each is a name, and no two are the same
pub record AreNames (names : List (List ℕ)) : Type 0 where
  pub formed : All (λ name. is_name name ≡ true) names
  pub distinct : IsDistinct bytes_eq names

-- two legs lead from the same place to the same place
abbrev pub same_ends : Leg → Leg → Bool
same_ends a b = (a.from == b.from) && (a.to == b.to)

-- a checked week
pub record IsWeek (week : Week) : Type 0 where
  pub load : (1 ≤ week.load) × (week.load ≤ 240)
  pub night : week.night ≤ 1000000
  pub grid : (week.grid ≡ 15) ⊎ ((week.grid ≡ 30) ⊎ (week.grid ≡ 60))
  pub places : (1 ≤ length week.places) × (length week.places ≤ 64)
  pub few : (length week.legs ≤ 1024) × (length week.drivers ≤ 16) × (length week.orders ≤ 120)
  pub legs : All (IsLeg (length week.places)) week.legs
  pub drivers : All IsDriver week.drivers
  pub orders : All (IsOrder (length week.places)) week.orders
  pub place_names : AreNames week.places
  pub driver_names : AreNames (map (λ driver. driver.name) week.drivers)
  pub order_names : AreNames (map (λ order. order.name) week.orders)
  pub ends : IsDistinct same_ends week.legs
