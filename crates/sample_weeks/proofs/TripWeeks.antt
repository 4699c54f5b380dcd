-- A week whose orders are all at places other than the depot, and whose roads cost 3,000 cents each: what any duty is worth
-- at least.
use Rattle.std.proofs.Common.{◌≡◌, ◌≢◌, ◌⊎◌, ℕ, zero, suc, ◌+◌, ◌≤◌, Bool, true, false, cond, eqb, List, [], ◌∷◌, ◌++◌, refl, ap, sym, ◌∙◌, inl, inr, arith, Option, Some, None, is_some, slice_get, find, pos, ◌-ℤ◌, ◌≤ℤ◌, length}
use Rattle.std.proofs.lemmas.Bool.Decides.{nat_tests}
use Rattle.std.proofs.lemmas.Int.{ints}
use Rattle.week_book.specs.declared.weeks.Leg.{Leg as Road}
use Rattle.week_book.specs.declared.weeks.Order.{Order}
use Rattle.week_book.specs.declared.weeks.Driver.{Driver}
use Rattle.week_book.specs.declared.weeks.Week.{Week}
use Rattle.week_book.specs.Weeks.{road, order_of, driver_of}
use Rattle.duty_plan.specs.declared.duties.Act.{Act}
use Rattle.duty_plan.specs.declared.duties.Act.TheVariants.{Leg, Serve, Load}
use Rattle.duty_plan.specs.declared.plans.Case.{Case}
use Rattle.duty_plan.specs.declared.deciding.Pairs.{Pairs}
use Rattle.duty_plan.specs.declared.pricing.Prices.{Prices}
use Rattle.duty_plan.specs.Acts.{cents_of_act, cents_of_road, can_be_done, is_at, order_of_act, place_by}
use Rattle.duty_plan.specs.PartialDuties.{PartialDuty, KeepsOfficeThrough, place_after}
use Rattle.duty_plan.specs.Duties.{cents_after, orders_of, cost_after, fee_or_none, partial_of, worth, times, open_off_at, capacity_at}
use Rattle.duty_plan.specs.Values.{price_at, reduced_cost, IsLowest}
use Rattle.duty_plan.specs.Sums.{total_below}
use Rattle.duty_plan.proofs.Sums.{share, total-share, total-mono, share-none, share-one}
use Rattle.duty_plan.proofs.Carrying.{served-once, served-known}

-- each road costs 3,000 cents, each order is away from the depot, and the first driver's fee is 2,000 cents
pub record IsTripWeek (week : Week) : Type 0 where
  pub roads : (from to : ℕ) → is_some (road week from to) ≡ true → cents_of_road (road week from to) ≡ 3000
  pub away : (order : ℕ) → is_at (order_of week order) 0 ≡ false
  pub fee : fee_or_none (driver_of week 0) ≡ 2000

-- what the legs of a partial duty cost at least: two legs where it served an order and is home again, one where it is away
abbrev toll : List ℕ → ℕ → ℕ
toll [] place = cond (eqb place 0) 0 3000
toll (order ∷ orders) place = cond (eqb place 0) 6000 3000

-- a leg is worth what it adds to the toll
toll-leg : (orders : List ℕ) (place to : ℕ) → (orders ≢ [] → 3000 ≤ toll orders place) → toll orders to ≤ 3000 + toll orders place
toll-leg [] place to h = grind arith
toll-leg (order ∷ orders) place to h = let known = h (λ e. cc) in grind arith

toll-some : (orders : List ℕ) (place : ℕ) → orders ≢ [] → 3000 ≤ toll orders place
toll-some [] place h = absurd (h refl)
toll-some (order ∷ orders) place h = grind arith

-- a service away from the depot changes nothing
toll-away : (order : ℕ) (orders : List ℕ) (place : ℕ) → eqb place 0 ≡ false → toll (order ∷ orders) place ≡ toll orders place
toll-away order [] place h = rw h refl
toll-away order (o ∷ orders) place h = refl

at-away : (week : Week) (order place : ℕ) → is_at (order_of week order) 0 ≡ false → is_at (order_of week order) place ≡ true → (b : Bool) → eqb place 0 ≡ b → b ≡ false
at-away week order place away here false e = refl
at-away week order place away here true e =
    let same : place ≡ 0 = grind (arith, nat_tests) in
    let there : is_at (order_of week order) 0 ≡ true = ap (λ (x : ℕ). is_at (order_of week order) x) (sym same) ∙ here in cc

toll-act : (week : Week) (place : ℕ) (act : Act) (orders : List ℕ) (cents : ℕ) → IsTripWeek week → can_be_done week place act ≡ true → toll orders place ≤ cents →
    toll (order_of_act act ++ orders) (place_by act place) ≤ cents_of_act week place act + cents
toll-act week place (Leg to) orders cents w r l = omega (arith, w.roads place to r, toll-leg orders place to (toll-some orders place))
toll-act week place Load orders cents w r l = omega arith
toll-act week place (Serve order) orders cents w r l =
    omega (arith, toll-away order orders place (at-away week order place (w.away order) r (eqb place 0) refl))

toll-partial : (week : Week) (open_off capacity : ℕ) (partial : PartialDuty) → IsTripWeek week → KeepsOfficeThrough week open_off capacity partial →
    toll (orders_of partial) (place_after partial) ≤ cents_after week partial
toll-partial week open_off capacity [] w k = omega arith
toll-partial week open_off capacity (step ∷ before) w k =
    omega (
      arith,
      toll-act week (place_after before) step.act (orders_of before) (cents_after week before) w k.0.road (toll-partial week open_off capacity before w k.1),
    )

-- each order is paid for at most once
pub shared : (f : ℕ → ℕ) (o : ℕ) (xs : List ℕ) (n : ℕ) → times o xs ≡ n → n ≤ 1 → share f o xs ≤ f o
shared f o xs zero e l = omega (arith, share-none f o xs e)
shared f o xs (suc zero) e l = omega (arith, share-one f o xs (omega arith))
shared f o xs (suc (suc n)) e l = absurd (omega arith)

worth-all : (week : Week) (open_off capacity : ℕ) (prices : Prices) (partial : PartialDuty) → KeepsOfficeThrough week open_off capacity partial →
    worth (price_at prices) (orders_of partial) ≤ total_below (price_at prices) (length week.orders)
worth-all week open_off capacity prices partial k =
    omega (
      arith,
      total-share (price_at prices) (length week.orders) (orders_of partial) (λ o some. served-known week open_off capacity o partial k some),
      total-mono (λ o. share (price_at prices) o (orders_of partial)) (price_at prices) (length week.orders)
          (λ o l. shared (price_at prices) o (orders_of partial) (times o (orders_of partial)) refl (served-once week open_off capacity o partial k)),
    )

-- what a partial duty that is home again costs: nothing is carried, or two legs and the fee are paid
abbrev AtLeast : Case → PartialDuty → Type 0
AtLeast case partial = (orders_of partial ≡ []) ⊎ (8000 ≤ cost_after case 0 partial)

cost-steps : (case : Case) (partial : PartialDuty) → IsTripWeek case.week → (orders : List ℕ) → orders_of partial ≡ orders → place_after partial ≡ 0 →
    toll orders 0 ≤ cents_after case.week partial → AtLeast case partial
cost-steps case partial w [] e home t = inl e
cost-steps case [] w (order ∷ orders) e home t = cc
cost-steps case (step ∷ before) w (order ∷ orders) e home t = inr (omega (arith, w.fee, t))

cost-home : (case : Case) (partial : PartialDuty) → IsTripWeek case.week → KeepsOfficeThrough case.week (open_off_at case 0) (capacity_at case 0) partial →
    place_after partial ≡ 0 → AtLeast case partial
cost-home case partial w k home =
    cost-steps case partial w (orders_of partial) refl home
    (omega (
      arith,
      ap (λ (p : ℕ). toll (orders_of partial) p) home,
      toll-partial case.week (open_off_at case 0) (capacity_at case 0) partial w k,
    ))

-- no duty is worth less than the cheapest trip less all prices, where these pay for the trip
pub lowest-trip : (case : Case) (pairs : Pairs) (prices : Prices) (total : ℕ) → IsTripWeek case.week → total_below (price_at prices) (length case.week.orders) ≡ total → 8000 ≤ total →
    IsLowest case 0 pairs prices (pos 8000 -ℤ pos total)
lowest-trip case pairs prices total w sum enough duty c = by_cost (cost-home case (partial_of duty) w c.lawful.partial.office c.lawful.home)
  where
    by_cost : AtLeast case (partial_of duty) → (pos 8000 -ℤ pos total) ≤ℤ reduced_cost case 0 prices (partial_of duty)
    by_cost (inl none) =
        let free : worth (price_at prices) (orders_of (partial_of duty)) ≡ 0 = ap (worth (price_at prices)) none in
        omega (arith, ints, free)
    by_cost (inr paid) =
        let most = worth-all case.week (open_off_at case 0) (capacity_at case 0) prices (partial_of duty) c.lawful.partial.office in
        omega (arith, ints, sum, most)

-- each road has the cents that each leg has
found-cents : (p : Road → Bool) (legs : List Road) (cents : ℕ) → ((n : ℕ) (leg : Road) → slice_get legs n ≡ Some leg → leg.cents ≡ cents) →
    is_some (find p legs) ≡ true → cents_of_road (find p legs) ≡ cents
found-cents p [] cents each some = cc
found-cents p (leg ∷ legs) cents each some = by_test (p leg) refl some (λ h. found-cents p legs cents (λ n l e. each (suc n) l e) h)
  where
    by_test : (b : Bool) → p leg ≡ b → is_some (find p (leg ∷ legs)) ≡ true → (is_some (find p legs) ≡ true → cents_of_road (find p legs) ≡ cents) →
        cents_of_road (find p (leg ∷ legs)) ≡ cents
    by_test true e h more = rw e (each 0 leg refl)
    by_test false e h more = rw e (more (rw e at h))

away-all : (orders : List Order) (order : ℕ) → ((n : ℕ) (o : Order) → slice_get orders n ≡ Some o → o.place ≡ 1) → is_at (slice_get orders order) 0 ≡ false
away-all orders order each = by_found (slice_get orders order) refl
  where
    by_found : (found : Option Order) → slice_get orders order ≡ found → is_at found 0 ≡ false
    by_found None e = refl
    by_found (Some o) e = let p : o.place ≡ 1 = each order o e in rw p refl

fee-first : (drivers : List Driver) → length drivers ≡ 1 → ((n : ℕ) (d : Driver) → slice_get drivers n ≡ Some d → d.fee ≡ 2000) → fee_or_none (slice_get drivers 0) ≡ 2000
fee-first [] l each = absurd (omega arith)
fee-first (d ∷ drivers) l each = each 0 d refl

pub trip-week : (week : Week) → length week.drivers ≡ 1 → ((n : ℕ) (leg : Road) → slice_get week.legs n ≡ Some leg → leg.cents ≡ 3000) →
    ((n : ℕ) (d : Driver) → slice_get week.drivers n ≡ Some d → d.fee ≡ 2000) →
    ((n : ℕ) (o : Order) → slice_get week.orders n ≡ Some o → o.place ≡ 1) → IsTripWeek week
trip-week week one legs drivers orders = record {
  roads = λ from to some. found-cents _ week.legs 3000 legs some;
  away = λ order. away-all week.orders order orders;
  fee = fee-first week.drivers one drivers;
}
