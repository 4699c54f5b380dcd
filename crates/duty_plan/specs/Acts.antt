-- What one act is, of a week, at a place.
use Rattle.std.specs.Prelude.{ℕ, ◌+◌, Bool, true, false, ◌&&◌, ◌==◌, nat_le, List, [], ◌∷◌, Option, Some, None, is_some}
use Rattle.minute_line.specs.declared.marks.Mark.{Mark}
use Rattle.minute_line.specs.declared.marks.Mark.TheVariants.{Drive, Work}
use Rattle.week_book.specs.declared.weeks.Leg.{Leg as Road}
use Rattle.week_book.specs.declared.weeks.Order.{Order}
use Rattle.week_book.specs.declared.weeks.Week.{Week}
use Rattle.week_book.specs.Weeks.{road, order_of}
use Rattle.duty_plan.specs.declared.duties.Act.{Act}
use Rattle.duty_plan.specs.declared.duties.Act.TheVariants.{Leg, Serve, Load}

-- a leg is driven, a service and a load are worked
abbrev pub mark_of : Act → Mark
mark_of (Leg to) = Drive
mark_of (Serve order) = Work
mark_of Load = Work

-- where the driver is after an act that begins at a place: a leg alone moves the driver
abbrev pub place_by : Act → ℕ → ℕ
place_by (Leg to) place = to
place_by (Serve order) place = place
place_by Load place = place

-- the Drive minutes of a road
abbrev pub minutes_of_road : Option Road → ℕ
minutes_of_road None = 0
minutes_of_road (Some leg) = leg.minutes

-- the Work minutes of an order's service
abbrev pub minutes_of_order : Option Order → ℕ
minutes_of_order None = 0
minutes_of_order (Some order) = order.service

-- how many minutes an act takes that begins at a place
abbrev pub minutes_of : Week → ℕ → Act → ℕ
minutes_of week place (Leg to) = minutes_of_road (road week place to)
minutes_of week place (Serve order) = minutes_of_order (order_of week order)
minutes_of week place Load = week.load

-- the cents of a road
abbrev pub cents_of_road : Option Road → ℕ
cents_of_road None = 0
cents_of_road (Some leg) = leg.cents

-- what an act costs that begins at a place: a leg alone costs
abbrev pub cents_of_act : Week → ℕ → Act → ℕ
cents_of_act week place (Leg to) = cents_of_road (road week place to)
cents_of_act week place (Serve order) = 0
cents_of_act week place Load = 0

-- the order is there, and is to be served at the place
abbrev pub is_at : Option Order → ℕ → Bool
is_at None place = false
is_at (Some order) place = order.place == place

-- the act can be done at the place: a leg is a row of the road table, a service is at its order's place, a load at the
-- depot
abbrev pub can_be_done : Week → ℕ → Act → Bool
can_be_done week place (Leg to) = is_some (road week place to)
can_be_done week place (Serve order) = is_at (order_of week order) place
can_be_done week place Load = place == 0

-- the order is there, and its window has the minute
abbrev pub is_open : Option Order → ℕ → Bool
is_open None start = false
is_open (Some order) start = nat_le order.opens start && nat_le start order.closes

-- the act may start at the minute: a service only within its order's window
abbrev pub may_start : Week → Act → ℕ → Bool
may_start week (Leg to) start = true
may_start week (Serve order) start = is_open (order_of week order) start
may_start week Load start = true

-- the kg of an order
abbrev pub kg_of : Option Order → ℕ
kg_of None = 0
kg_of (Some order) = order.kg

-- the kg served since the last load act: a load act empties the count
abbrev pub used_by : Week → Act → ℕ → ℕ
used_by week (Leg to) used = used
used_by week (Serve order) used = kg_of (order_of week order) + used
used_by week Load used = 0

-- a load act was done
abbrev pub loaded_by : Act → Bool → Bool
loaded_by (Leg to) loaded = loaded
loaded_by (Serve order) loaded = loaded
loaded_by Load loaded = true

-- the act serves the order
abbrev pub serves_order : ℕ → Act → Bool
serves_order order (Serve served) = order == served
serves_order order (Leg to) = false
serves_order order Load = false

-- the orders that an act serves
abbrev pub order_of_act : Act → List ℕ
order_of_act (Leg to) = []
order_of_act (Serve order) = order ∷ []
order_of_act Load = []
