-- What is decided of drivers and orders, the least values of drivers, and the Lagrangian value of them all.
use Rattle.std.specs.Prelude.{◌≡◌, ◌≢◌, ℕ, zero, suc, ◌+◌, ◌*◌, ◌<◌, ◌≤◌, Bool, true, false, not, ◌&&◌, ◌||◌, ◌==◌, if◌then◌else◌, List, [], ◌∷◌, length, get_or, ℤ, pos, negsuc, ◌+ℤ◌, ◌-ℤ◌, ◌≤ℤ◌}
use Rattle.week_book.specs.declared.weeks.Week.{Week}
use Rattle.duty_plan.specs.declared.duties.Duty.{Duty}
use Rattle.duty_plan.specs.declared.plans.Plan.{Plan}
use Rattle.duty_plan.specs.declared.plans.Case.{Case}
use Rattle.duty_plan.specs.declared.deciding.Pair.{Pair}
use Rattle.duty_plan.specs.declared.deciding.Pair.TheVariants.{Free, Forced, Barred}
use Rattle.duty_plan.specs.declared.deciding.Pairs.{Pairs}
use Rattle.duty_plan.specs.declared.pricing.Prices.{Prices}
use Rattle.duty_plan.specs.declared.nodes.Decision.{Decision}
use Rattle.duty_plan.specs.declared.nodes.Decision.TheVariants.{Root, Forced as forces, Barred as bars}
use Rattle.duty_plan.specs.PartialDuties.{PartialDuty, serves}
use Rattle.duty_plan.specs.Sums.{total_below}
use Rattle.duty_plan.specs.Duties.{EachOf, partial_of, IsLawful, cost_after, orders_of, worth, price_of}

-- what is decided of a driver and an order; Free where there is no such cell
abbrev pub pair_at : Pairs → ℕ → ℕ → Pair
pair_at pairs driver order = get_or pairs.cells (driver * pairs.orders + order) Free

-- the price of an order; 0 where there is none
abbrev pub price_at : Prices → ℕ → ℕ
price_at prices order = get_or prices.cents order 0

-- one cell for each driver and order of the week
pub record IsPairs (week : Week) (pairs : Pairs) : Type 0 where
  pub orders : pairs.orders ≡ length week.orders
  pub cells : length pairs.cells ≡ length week.drivers * length week.orders

-- one price for each order of the week, at most what a subcontractor takes for it
pub record IsPrices (week : Week) (prices : Prices) : Type 0 where
  pub orders : length prices.cents ≡ length week.orders
  pub most : (order : ℕ) → order < length week.orders → price_at prices order ≤ price_of week order

-- a duty's steps serve each order that is Forced for the driver, and none that is Barred
pub record IsInside (week : Week) (pairs : Pairs) (driver : ℕ) (partial : PartialDuty) : Type 0 where
  pub forced : (order : ℕ) → order < length week.orders → pair_at pairs driver order ≡ Forced → serves order partial ≡ true
  pub barred : (order : ℕ) → order < length week.orders → pair_at pairs driver order ≡ Barred → serves order partial ≡ false

-- a plan is inside where each of its duties is
abbrev pub IsPlanInside : Week → Pairs → Plan → Type 0
IsPlanInside week pairs plan = EachOf (λ driver duty. IsInside week pairs driver (partial_of duty)) plan.duties

-- nothing is left Free
abbrev pub IsDecided : Week → Pairs → Type 0
IsDecided week pairs = (driver order : ℕ) → driver < length week.drivers → order < length week.orders →
    pair_at pairs driver order ≢ Free

-- the value of a partial duty: its cost less the prices of the orders that it serves
abbrev pub reduced_cost : Case → ℕ → Prices → PartialDuty → ℤ
reduced_cost case driver prices partial =
    pos (cost_after case driver partial) -ℤ pos (worth (price_at prices) (orders_of partial))

-- a duty that the driver may be given: lawful, and inside
pub record IsChoice (case : Case) (driver : ℕ) (pairs : Pairs) (duty : Duty) : Type 0 where
  pub lawful : IsLawful case driver duty
  pub inside : IsInside case.week pairs driver (partial_of duty)

-- no lawful duty inside has a smaller value
abbrev pub IsLowest : Case → ℕ → Pairs → Prices → ℤ → Type 0
IsLowest case driver pairs prices value =
    (duty : Duty) → IsChoice case driver pairs duty → value ≤ℤ reduced_cost case driver prices (partial_of duty)

-- the duty is lawful and inside, this is its value, and no such duty has a smaller one
pub record IsLeast (case : Case) (driver : ℕ) (pairs : Pairs) (prices : Prices) (value : ℤ) (duty : Duty) : Type 0 where
  pub choice : IsChoice case driver pairs duty
  pub has_value : reduced_cost case driver prices (partial_of duty) ≡ value
  pub lowest : IsLowest case driver pairs prices value

-- this is the driver's least value
abbrev pub IsLeastValue : Case → ℕ → Pairs → Prices → ℤ → Type 0
IsLeastValue case driver pairs prices value = (duty : Duty) × IsLeast case driver pairs prices value duty

-- the driver has no least value, since no lawful duty is inside
abbrev pub HasNoDuty : Case → ℕ → Pairs → Type 0
HasNoDuty case driver pairs = (duty : Duty) → IsChoice case driver pairs duty → ⊥

-- the drivers' least values, the first driver's first
pub record AreLeastValues (case : Case) (pairs : Pairs) (prices : Prices) (least : List ℤ) : Type 0 where
  pub drivers : length least ≡ length case.week.drivers
  pub each : EachOf (λ driver value. IsLeastValue case driver pairs prices value) least

-- the sum of a list of numbers
abbrev pub sum_of : List ℤ → ℤ
sum_of [] = pos 0
sum_of (first ∷ rest) = first +ℤ sum_of rest

-- the test holds at each number below n
abbrev pub all_below : (ℕ → Bool) → ℕ → Bool
all_below test zero = true
all_below test (suc n) = test n && all_below test n

-- what it costs to give all orders of the week to subcontractors
abbrev pub cost_of_all : Week → ℕ
cost_of_all week = total_below (price_of week) (length week.orders)

-- Barred, and not Forced or Free
abbrev pub is_barred : Pair → Bool
is_barred Free = false
is_barred Forced = false
is_barred Barred = true

-- the order is Barred for all drivers, as each order is where there is no driver
abbrev pub barred_for_all : Week → Pairs → ℕ → Bool
barred_for_all week pairs order = all_below (λ driver. is_barred (pair_at pairs driver order)) (length week.drivers)

-- what an order adds to the Lagrangian value: its price, or what a subcontractor takes where no driver may serve it
abbrev pub lagrangian_term : Week → Pairs → Prices → ℕ → ℕ
lagrangian_term week pairs prices order =
    if barred_for_all week pairs order then price_of week order else price_at prices order

-- the larger of 0 and a number
abbrev pub or_zero : ℤ → ℕ
or_zero (pos n) = n
or_zero (negsuc n) = 0

-- the Lagrangian value, of the drivers' least values: all orders' Lagrangian terms and these values, but never less than 0
abbrev pub lagrangian : Week → Pairs → Prices → List ℤ → ℕ
lagrangian week pairs prices least =
    or_zero (pos (total_below (lagrangian_term week pairs prices) (length week.orders)) +ℤ sum_of least)

-- the driver and the order are these two
abbrev pub is_pair : ℕ → ℕ → ℕ → ℕ → Bool
is_pair driver order d o = (driver == d) && (order == o)

-- a decision of the path forces the order for the driver
abbrev pub forced_by : ℕ → ℕ → List Decision → Bool
forced_by driver order [] = false
forced_by driver order (decision ∷ rest) =
    elim decision [ Root ↦ false | forces d o ↦ is_pair driver order d o | bars d o ↦ false ] || forced_by driver order rest

-- a decision of the path bars the order for the driver, or forces it for another driver
abbrev pub barred_by : ℕ → ℕ → List Decision → Bool
barred_by driver order [] = false
barred_by driver order (decision ∷ rest) =
    elim decision [
      | Root ↦ false
      | forces d o ↦ not (driver == d) && (order == o)
      | bars d o ↦ is_pair driver order d o
    ] || barred_by driver order rest

-- what a path decides of a driver and an order: Forced where it forces them, else Barred where it bars them or forces
-- the order for another driver, else Free
abbrev pub decided_by : List Decision → ℕ → ℕ → Pair
decided_by path driver order =
    if forced_by driver order path then Forced else (if barred_by driver order path then Barred else Free)

-- the pairs of a path: what its decisions decide of each driver and order
pub record ArePairsOf (week : Week) (path : List Decision) (pairs : Pairs) : Type 0 where
  pub shape : IsPairs week pairs
  pub each : (driver order : ℕ) → driver < length week.drivers → order < length week.orders →
      pair_at pairs driver order ≡ decided_by path driver order
