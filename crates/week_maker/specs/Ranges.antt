-- The ranges that the numbers of made weeks lie in.
use Rattle.std.specs.Prelude.{◌≡◌, ℕ, ◌+◌, ◌/◌, ◌<◌, ◌≤◌, length}
use Rattle.week_maker.specs.declared.orders.MadeOrder.{MadeOrder}
use Rattle.week_maker.specs.declared.weeks.TheConstants.{ROW_COUNT}
use Rattle.week_maker.specs.MadeWeeks.{hub_minutes, ring_minutes, order_of, ring_seed, order_seed, made_rows}

-- the number is at least `low` and at most `high`
abbrev pub IsFrom : ℕ → ℕ → ℕ → Type 0
IsFrom low high number = (low ≤ number) × (number ≤ high)

-- an order of one of the twelve places that each driver can load; its window is open for two hours or more, on one of five days
pub record IsOrderInRange (order : MadeOrder) : Type 0 where
  pub place : IsFrom 1 12 order.place
  pub window : order.opens + 120 ≤ order.closes
  pub day : order.opens / 1440 ≡ order.closes / 1440
  pub week : order.closes < 7200
  pub service : IsFrom 15 60 order.service
  pub kg : IsFrom 2000 18000 order.kg
  pub price : IsFrom 30000 69900 order.price

-- the week of a seed has 148 rows, and its numbers lie in their ranges
pub record IsWeekInRange (seed : ℕ) : Type 0 where
  pub rows : length (made_rows seed) ≡ ROW_COUNT
  pub hub : (place : ℕ) → IsFrom 30 179 (hub_minutes seed place)
  pub ring : (place : ℕ) → IsFrom 20 79 (ring_minutes (ring_seed seed) place)
  pub orders : (number : ℕ) → IsOrderInRange (order_of (order_seed seed) number)
