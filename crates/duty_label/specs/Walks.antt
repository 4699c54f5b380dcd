-- Walks, which are lists of legs, and lower bounds on what they take.
use Rattle.std.specs.Prelude.{◌≡◌, ◌⊎◌, ℕ, ◌+◌, ◌<◌, ◌≤◌, Bool, true, nat_le, List, [], ◌∷◌, length, Option, Some, None, is_some}
use Rattle.week_book.specs.declared.weeks.Leg.{Leg as Road}
use Rattle.week_book.specs.declared.weeks.Order.{Order}
use Rattle.week_book.specs.declared.weeks.Week.{Week}
use Rattle.week_book.specs.Weeks.{order_of, road}
use Rattle.duty_plan.specs.Acts.{minutes_of_road, cents_of_road}
use Rattle.duty_plan.specs.Labels.{bits_below, closes_of}

-- the last of some places, the newest first, that legs lead to one after the other from a first place
abbrev pub end_of : ℕ → List ℕ → ℕ
end_of from [] = from
end_of from (to ∷ before) = to

-- there is a leg to each of the places
abbrev pub AreLegs : Week → ℕ → List ℕ → Type 0
AreLegs week from [] = Unit {0}
AreLegs week from (to ∷ before) = (is_some (road week (end_of from before) to) ≡ true) × AreLegs week from before

-- what these legs take together, by what one road takes
abbrev pub total_of_legs : (Option Road → ℕ) → Week → ℕ → List ℕ → ℕ
total_of_legs takes week from [] = 0
total_of_legs takes week from (to ∷ before) = total_of_legs takes week from before + takes (road week (end_of from before) to)

-- lower bounds: each list of legs from one place to another takes at least so much
abbrev pub AreLowerBounds : (Option Road → ℕ) → Week → (ℕ → ℕ → ℕ) → Type 0
AreLowerBounds takes week least = (from : ℕ) (places : List ℕ) → AreLegs week from places →
    least from (end_of from places) ≤ total_of_legs takes week from places

-- a list of legs from one place to another takes just so much
pub record IsWalk (takes : Option Road → ℕ) (week : Week) (from to total : ℕ) : Type 0 where
  pub places : List ℕ
  pub legs : AreLegs week from places
  pub ends : end_of from places ≡ to
  pub taken : total_of_legs takes week from places ≡ total

-- each of these numbers is what some list of legs takes, but where it is the largest number that is counted
abbrev pub AreTaken : (Option Road → ℕ) → Week → (ℕ → ℕ → ℕ) → Type 0
AreTaken takes week least = (from to : ℕ) → from < 64 → to < 64 →
    (18446744073709551615 ≤ least from to) ⊎ IsWalk takes week from to (least from to)

-- bounds that no leg undercuts, where nothing is needed from a place to itself
pub record AreClosed (takes : Option Road → ℕ) (week : Week) (least : ℕ → ℕ → ℕ) : Type 0 where
  pub here : (from : ℕ) → least from from ≡ 0
  pub leg : (from by to : ℕ) → is_some (road week by to) ≡ true → least from to ≤ least from by + takes (road week by to)

-- lower bounds on minutes
abbrev pub AreLeastMinutes : Week → (ℕ → ℕ → ℕ) → Type 0
AreLeastMinutes week least = AreLowerBounds minutes_of_road week least

-- lower bounds on cents
abbrev pub AreLeastCents : Week → (ℕ → ℕ → ℕ) → Type 0
AreLeastCents week least = AreLowerBounds cents_of_road week least

-- the place of an order
abbrev pub place_of : Option Order → ℕ
place_of None = 0
place_of (Some order) = order.place

-- the order's place can be reached, from a place at a minute, before its window closes
abbrev pub can_reach : Week → (ℕ → ℕ → ℕ) → ℕ → ℕ → ℕ → Bool
can_reach week least at place order =
    nat_le (at + least place (place_of (order_of week order))) (closes_of (order_of week order))

-- the orders that can be reached so; order n is the bit n
abbrev pub reached_from : Week → (ℕ → ℕ → ℕ) → ℕ → ℕ → ℕ
reached_from week least at place = bits_below (can_reach week least at place) (length week.orders)
