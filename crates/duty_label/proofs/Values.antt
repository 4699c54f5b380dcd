-- What one step more adds to a value, and how large values get.
use Rattle.std.proofs.Common.{w64, ◌≡◌, ℕ, ◌+◌, ◌*◌, ◌≤◌, Bool, true, false, cond, ltb, [], ◌∷◌, length, Option, Some, None, slice_get}
use Rattle.std.proofs.Common.{refl, ap, sym, ◌∙◌, arith}
use Rattle.std.proofs.Common.{to_z, of_z}
use Rattle.std.specs.Prelude.{unwrap_or, ℤ, pos, ◌+ℤ◌, ◌-ℤ◌}
use Rattle.std.proofs.lemmas.Bool.{ltb-true, ltb-false}
use Rattle.std.proofs.lemmas.Int.{ints}
use Rattle.std.proofs.lemmas.List.{get_or_past}
use Rattle.std.proofs.lemmas.Option.{unwrap_or-slice_get}
use Rattle.week_book.specs.declared.weeks.Order.{Order}
use Rattle.week_book.specs.declared.weeks.Driver.{Driver}
use Rattle.week_book.specs.declared.weeks.Week.{Week}
use Rattle.week_book.specs.Weeks.{IsWeek, IsOrder, IsDriver, order_of, driver_of}
use Rattle.duty_plan.specs.declared.duties.Act.{Act}
use Rattle.duty_plan.specs.declared.duties.Act.TheVariants.{Leg, Serve, Load}
use Rattle.duty_plan.specs.declared.duties.Step.{Step}
use Rattle.duty_plan.specs.declared.plans.Case.{Case}
use Rattle.duty_plan.specs.declared.pricing.Prices.{Prices}
use Rattle.duty_plan.specs.Acts.{order_of_act, cents_of_act}
use Rattle.duty_plan.specs.PartialDuties.{PartialDuty, KeepsOfficeThrough, place_after}
use Rattle.duty_plan.specs.Duties.{worth, orders_of, price_or_none, cost_after, fee_or_none, night_of}
use Rattle.duty_plan.specs.Labels.{has_step}
use Rattle.duty_plan.specs.Values.{IsPrices, price_at, reduced_cost}
use Rattle.duty_plan.proofs.Sums.{worth-append}
use Rattle.duty_plan.proofs.WeekLimits.{all-slice_get, few-steps, early, cheap}
use Rattle.duty_label.specs.Children.{IsSmallValue}

-- a subcontractor takes at most so much
price-most : (week : Week) (order : ℕ) (found : Option Order) → IsWeek week → order_of week order ≡ found → price_or_none found ≤ 100000000
price-most week order None w e = omega arith
price-most week order (Some o) w e = (all-slice_get (IsOrder (length week.places)) week.orders order o w.orders e).price

-- an order's price is at most so much
pub price-small : (week : Week) (prices : Prices) (order : ℕ) → IsWeek week → IsPrices week prices → price_at prices order ≤ 100000000
price-small week prices order w p = by_test (ltb order (length week.orders)) refl
  where
    by_test : (b : Bool) → ltb order (length week.orders) ≡ b → price_at prices order ≤ 100000000
    by_test true e = omega (arith, p.most order (ltb-true order (length week.orders) e), price-most week order (order_of week order) w refl)
    by_test false e =
        let past : length prices.cents ≤ order = omega (arith, p.orders, ltb-false order (length week.orders) e) in
        omega (arith, get_or_past prices.cents order 0 past)

-- an order that has no price
pub no-price : (prices : Prices) (order : ℕ) → None ≡ slice_get prices.cents order → 0 ≡ price_at prices order + 0
no-price prices order h =
    let none : unwrap_or (slice_get prices.cents order) 0 ≡ 0 = rw (sym h) refl in
    omega (arith, none, unwrap_or-slice_get prices.cents order 0)

-- the price of an act's order
worth-act : (week : Week) (prices : Prices) (act : Act) → IsWeek week → IsPrices week prices → worth (price_at prices) (order_of_act act) ≤
    100000000
worth-act week prices (Leg to) w p = omega arith
worth-act week prices (Serve order) w p = omega (arith, price-small week prices order w p)
worth-act week prices Load w p = omega arith

-- the prices of a partial duty's orders
worth-partial : (week : Week) (prices : Prices) (partial : PartialDuty) → IsWeek week → IsPrices week prices →
    worth (price_at prices) (orders_of partial) ≤ 100000000 * length partial
worth-partial week prices [] w p = omega arith
worth-partial week prices (step ∷ before) w p =
    omega (
      arith,
      worth-append (price_at prices) (order_of_act step.act) (orders_of before),
      worth-act week prices step.act w p,
      worth-partial week prices before w p,
    )

pub fee-small : (found : Option Driver) (driver : ℕ) (week : Week) → IsWeek week → driver_of week driver ≡ found → fee_or_none found ≤
    10000000
fee-small None driver week w e = omega arith
fee-small (Some d) driver week w e = (all-slice_get IsDriver week.drivers driver d w.drivers e).fee

cost-small : (case : Case) (driver open_off capacity : ℕ) (partial : PartialDuty) → IsWeek case.week → KeepsOfficeThrough case.week open_off
    capacity partial →
    cost_after case driver partial ≤ 30000000000
cost-small case driver open_off capacity [] w k = omega arith
cost-small case driver open_off capacity (step ∷ before) w k =
    omega (
      arith,
      fee-small (driver_of case.week driver) driver case.week w refl,
      cheap case.week open_off capacity (step ∷ before) w k,
      few-steps case.week open_off capacity (step ∷ before) w k,
      early case.week open_off capacity (step ∷ before) k,
    )

-- a lawful partial duty's value is small
pub value-small : (case : Case) (driver : ℕ) (prices : Prices) (open_off capacity : ℕ) (partial : PartialDuty) → IsWeek case.week → IsPrices
    case.week prices →
    KeepsOfficeThrough case.week open_off capacity partial → IsSmallValue (reduced_cost case driver prices partial)
value-small case driver prices open_off capacity partial w p k =
    let worths = worth-partial case.week prices partial w p in
    let few = few-steps case.week open_off capacity partial w k in
    let end = early case.week open_off capacity partial k in
    let cost = cost-small case driver open_off capacity partial w k in record {
      least = omega (arith, ints, worths, few, end, cost);
      most = omega (arith, ints, worths, few, end, cost);
    }

-- the value of a partial duty with a step more
pub value-step : (case : Case) (driver : ℕ) (prices : Prices) (lorry : Driver) (before : PartialDuty) (step : Step) (paid : Bool)
    (fee cents price : ℕ) →
    driver_of case.week driver ≡ Some lorry → paid ≡ has_step before → fee ≡ cond paid 0 lorry.fee →
    cents ≡ night_of case.week step before + cents_of_act case.week (place_after before) step.act → price ≡ worth (price_at prices)
    (order_of_act step.act) →
    reduced_cost case driver prices before +ℤ pos (fee + cents) -ℤ pos price ≡ reduced_cost case driver prices (step ∷ before)
value-step case driver prices lorry [] step paid fee cents price d h f c p =
    let due : fee_or_none (driver_of case.week driver) ≡ lorry.fee = ap fee_or_none d in
    let first : fee ≡ lorry.fee = f ∙ rw h refl in
    omega (arith, ints, due, first, c, p, worth-append (price_at prices) (order_of_act step.act) [])
value-step case driver prices lorry (last ∷ before) step paid fee cents price d h f c p =
    let none : fee ≡ 0 = f ∙ rw h refl in
    omega (arith, ints, none, c, p, worth-append (price_at prices) (order_of_act step.act) (orders_of (last ∷ before)))

-- the driver's fee is small
pub lorry-fee : (week : Week) (driver : ℕ) (lorry : Driver) → IsWeek week → driver_of week driver ≡ Some lorry → lorry.fee ≤ 10000000
lorry-fee week driver lorry w d = fee-small (Some lorry) driver week w d

pub due-small : (paid : Bool) (fee due : ℕ) → fee ≤ 10000000 → due ≡ cond paid 0 fee → due ≤ 10000000
due-small true fee due l e = omega arith
due-small false fee due l e = omega arith

-- a small value fits its type
pub fits : (value : ℤ) → IsSmallValue value → to_z w64 (of_z w64 value) ≡ value
fits value s = omega (arith, ints, s.least, s.most)

-- and so does one that a step made of it
pub fits-step : (value next : ℤ) (cents price : ℕ) → IsSmallValue value → cents ≤ 100000000 → price ≤ 100000000 →
    next ≡ to_z w64 (of_z w64 value) +ℤ pos cents -ℤ pos price → to_z w64 (of_z w64 next) ≡ value +ℤ pos cents -ℤ pos price
fits-step value next cents price s c p e =
    let same : next ≡ value +ℤ pos cents -ℤ pos price = rw (fits value s) at e in omega (arith, ints, s.least, s.most, c, p, same)
