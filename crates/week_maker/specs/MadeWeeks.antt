-- The text of the week that a seed makes.
use Rattle.std.specs.Prelude.{ℕ, ◌+◌, ◌-◌, ◌*◌, List, [], ◌∷◌, ◌++◌, codes, replicate}
use Rattle.std.specs.Fmt.{decimal}
use Rattle.minute_line.specs.DateWriting.{stamp_text}
use Rattle.week_maker.specs.declared.orders.MadeOrder.{MadeOrder}
use Rattle.seeded_draws.specs.Draws.{state_after, drawn}
use Rattle.week_maker.specs.Rows.{Row, with_rows, rows_for_each, place_name, driver_name, order_name}

-- the Monday of the week, as text
abbrev pub week_monday : List ℕ
week_monday = codes "2026-03-02"

-- the days of the week as text, Monday first
abbrev pub week_dates : List (List ℕ)
week_dates =
    week_monday
    ∷ codes "2026-03-03"
    ∷ codes "2026-03-04"
    ∷ codes "2026-03-05"
    ∷ codes "2026-03-06"
    ∷ codes "2026-03-07"
    ∷ codes "2026-03-08"
    ∷ []

-- the week begins on that Monday; a load takes 15 minutes, a night away 3000 cents, and services start on the hour
abbrev pub week_row : Row
week_row = codes "week" ∷ week_monday ∷ codes "15" ∷ codes "3000" ∷ codes "60" ∷ []

-- the row of a place
abbrev pub place_row : ℕ → Row
place_row place = codes "place" ∷ place_name place ∷ []

-- the row of a leg: 40 cents for each of its minutes
abbrev pub leg_row : ℕ → ℕ → ℕ → Row
leg_row from to minutes = codes "leg" ∷ place_name from ∷ place_name to ∷ decimal minutes ∷ decimal (40 * minutes) ∷ []

-- the leg there and the leg back
abbrev pub both_ways : ℕ → ℕ → ℕ → List Row
both_ways from to minutes = leg_row from to minutes ∷ leg_row to from minutes ∷ []

-- the minutes between the depot and a place, where the places' minutes are drawn from this seed on
abbrev pub hub_minutes : ℕ → ℕ → ℕ
hub_minutes seed place = 30 + drawn seed (place - 1) 150

-- the minutes between a place and the next, where the places' minutes are drawn from this seed on
abbrev pub ring_minutes : ℕ → ℕ → ℕ
ring_minutes seed place = 20 + drawn seed (place - 1) 60

-- the legs between the depot and a place
abbrev pub hub_legs : ℕ → ℕ → List Row
hub_legs seed place = both_ways 0 place (hub_minutes seed place)

-- the legs between a place and the next
abbrev pub ring_legs : ℕ → ℕ → List Row
ring_legs seed place = both_ways place (place + 1) (ring_minutes seed place)

-- the end of the drivers' weekly rest, on Saturday
abbrev pub rest_end : List ℕ
rest_end = codes "2026-02-28T00:00"

-- the rows of a driver: 24000 kg for 20000 cents, a rest of 2700 minutes, no work in the weeks before, and nothing but off since
abbrev pub driver_rows : ℕ → List Row
driver_rows driver =
    (codes "driver" ∷ driver_name driver ∷ codes "24000" ∷ codes "20000" ∷ [])
    ∷ (codes "rest" ∷ driver_name driver ∷ rest_end ∷ codes "2700" ∷ [])
    ∷ (codes "worked" ∷ driver_name driver ∷ codes "0" ∷ replicate 16 (codes "0"))
    ∷ (codes "past" ∷ driver_name driver ∷ codes "OFF" ∷ codes "2880" ∷ [])
    ∷ []

-- the minute at which the window of an order opens: on one of five days, from 06:00 on, by quarters of an hour
abbrev pub opens : ℕ → ℕ
opens seed = 1440 * drawn seed 1 5 + 360 + 15 * drawn seed 2 24

-- the order of the next seven draws from this seed
abbrev pub made_order : ℕ → MadeOrder
made_order seed =
    record {
      place = 1 + drawn seed 0 12;
      opens = opens seed;
      closes = opens seed + 120 + 15 * drawn seed 3 16;
      service = 15 + 15 * drawn seed 4 4;
      kg = 2000 * (1 + drawn seed 5 9);
      price = 30000 + 100 * drawn seed 6 400;
    }

-- the row of an order
abbrev pub order_row : ℕ → MadeOrder → Row
order_row number order =
    codes "order"
    ∷ order_name number
    ∷ place_name order.place
    ∷ stamp_text week_dates order.opens
    ∷ stamp_text week_dates order.closes
    ∷ decimal order.service
    ∷ decimal order.kg
    ∷ decimal order.price
    ∷ []

-- the order of this number, where each takes seven draws from this seed on
abbrev pub order_of : ℕ → ℕ → MadeOrder
order_of seed number = made_order (state_after seed (7 * (number - 1)))

-- the row of the order of this number
abbrev pub order_rows : ℕ → ℕ → List Row
order_rows seed number = order_row number (order_of seed number) ∷ []

-- the state that the legs between places are drawn from, after those of the depot
abbrev pub ring_seed : ℕ → ℕ
ring_seed seed = state_after seed 12

-- the state that the orders are drawn from, after all legs
abbrev pub order_seed : ℕ → ℕ
order_seed seed = state_after seed 23

-- the rows of the week that a seed makes
abbrev pub made_rows : ℕ → List Row
made_rows seed =
    (week_row ∷ place_row 0 ∷ [])
    ++ (rows_for_each 12 (λ place. place_row place ∷ [])
    ++ (rows_for_each 12 (hub_legs seed)
    ++ (rows_for_each 11 (ring_legs (ring_seed seed))
    ++ (rows_for_each 12 driver_rows
    ++ rows_for_each 40 (order_rows (order_seed seed))))))

-- the text of the week that a seed makes
abbrev pub made_text : ℕ → List ℕ
made_text seed = with_rows [] (made_rows seed)
