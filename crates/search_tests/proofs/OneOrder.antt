-- The least duties in a week of one order: the empty one, or one that serves the order for the fee alone.
use Rattle.std.proofs.Common.{◌≡◌, ◌⊎◌, ℕ, ◌+◌, ◌<◌, ◌≤◌, true, false, [], ◌∷◌, length, refl, ap, sym, ◌∙◌, inl, inr, arith, ℤ, pos, ◌-ℤ◌, ◌≤ℤ◌, to_z, of_z, w64}
use Rattle.std.proofs.lemmas.Int.{ints}
use Rattle.week_book.specs.Weeks.{driver_of}
use Rattle.duty_plan.specs.declared.duties.Duty.{Duty}
use Rattle.duty_plan.specs.declared.plans.Case.{Case}
use Rattle.duty_plan.specs.declared.deciding.Pair.{Pair}
use Rattle.duty_plan.specs.declared.deciding.Pair.TheVariants.{Free, Forced, Barred}
use Rattle.duty_plan.specs.declared.deciding.Pairs.{Pairs}
use Rattle.duty_plan.specs.declared.pricing.Prices.{Prices}
use Rattle.duty_plan.specs.PartialDuties.{PartialDuty, serves}
use Rattle.duty_plan.specs.Duties.{IsLawful, capacity_at, cost_after, fee_or_none, open_off_at, orders_of, partial_of, times, worth}
use Rattle.duty_plan.specs.Sums.{total_below}
use Rattle.duty_plan.specs.Values.{IsChoice, IsLeast, pair_at, price_at, reduced_cost}
use Rattle.duty_plan.proofs.Sums.{share, share-none, share-one, total-share}
use Rattle.duty_plan.proofs.Carrying.{is-served, served-known, served-once, unserved}
use Rattle.sample_weeks.proofs.TripWeeks.{shared}

-- the week has one order; what is decided of it for the driver, the driver's fee, and the order's price
pub record IsOffer (case : Case) (driver : ℕ) (pairs : Pairs) (prices : Prices) (pair : Pair) (fee price : ℕ) : Type 0 where
  pub one : length case.week.orders ≡ 1
  pub is_pair : pair ≡ pair_at pairs driver 0
  pub is_fee : fee ≡ fee_or_none (driver_of case.week driver)
  pub is_price : price ≡ price_at prices 0

-- the driver may not serve the order, or needn't and isn't paid more than the fee
abbrev pub Idles : Pair → ℕ → ℕ → Type 0
Idles pair fee price = (pair ≡ Barred) ⊎ ((pair ≡ Free) × (price ≤ fee))

-- the driver has to serve the order, or may and is paid the fee at least
abbrev pub Works : Pair → ℕ → ℕ → Type 0
Works pair fee price = (pair ≡ Forced) ⊎ ((pair ≡ Free) × (fee ≤ price))

first : (o n : ℕ) → n ≡ 1 → o < n → o ≡ 0
first o n one l = omega arith

-- what is decided of an order is what is decided of the first
pair-first : (pairs : Pairs) (driver n : ℕ) (pair decided : Pair) (o : ℕ) → n ≡ 1 → pair ≡ pair_at pairs driver 0 → o < n →
    pair_at pairs driver o ≡ decided → pair ≡ decided
pair-first pairs driver n pair decided o one is_pair l h =
    is_pair ∙ (ap (λ (k : ℕ). pair_at pairs driver k) (sym (first o n one l)) ∙ h)

-- a lawful duty is paid for the one order
paid-once : (case : Case) (driver : ℕ) (duty : Duty) (prices : Prices) → length case.week.orders ≡ 1 → IsLawful case driver duty →
    worth (price_at prices) (orders_of (partial_of duty)) ≡ share (price_at prices) 0 (orders_of (partial_of duty))
paid-once case driver duty prices one lawful =
    let partial = partial_of duty in
    let sum : total_below (λ o. share (price_at prices) o (orders_of partial)) (length case.week.orders) ≡ share (price_at prices) 0 (orders_of partial) + 0 =
    ap (total_below (λ o. share (price_at prices) o (orders_of partial))) one in
    let all : total_below (λ o. share (price_at prices) o (orders_of partial)) (length case.week.orders) ≡ worth (price_at prices) (orders_of partial) =
    total-share (price_at prices) (length case.week.orders) (orders_of partial)
    (λ o some. served-known case.week (open_off_at case driver) (capacity_at case driver) o partial lawful.partial.office some) in
    omega (arith, sum, all)

-- a lawful duty serves the one order at most once
served-first : (case : Case) (driver : ℕ) (duty : Duty) → IsLawful case driver duty → times 0 (orders_of (partial_of duty)) ≤ 1
served-first case driver duty lawful =
    served-once case.week (open_off_at case driver) (capacity_at case driver) 0 (partial_of duty) lawful.partial.office

paid-most : (case : Case) (driver : ℕ) (duty : Duty) (prices : Prices) → length case.week.orders ≡ 1 → IsLawful case driver duty →
    worth (price_at prices) (orders_of (partial_of duty)) ≤ price_at prices 0
paid-most case driver duty prices one lawful =
    let orders = orders_of (partial_of duty) in
    omega (arith, paid-once case driver duty prices one lawful, shared (price_at prices) 0 orders (times 0 orders) refl (served-first case driver duty lawful))

paid-none : (case : Case) (driver : ℕ) (duty : Duty) (prices : Prices) → length case.week.orders ≡ 1 → IsLawful case driver duty →
    serves 0 (partial_of duty) ≡ false → worth (price_at prices) (orders_of (partial_of duty)) ≡ 0
paid-none case driver duty prices one lawful idle =
    paid-once case driver duty prices one lawful ∙ share-none (price_at prices) 0 (orders_of (partial_of duty)) (unserved 0 (partial_of duty) idle)

paid-all : (case : Case) (driver : ℕ) (duty : Duty) (prices : Prices) → length case.week.orders ≡ 1 → IsLawful case driver duty →
    serves 0 (partial_of duty) ≡ true → worth (price_at prices) (orders_of (partial_of duty)) ≡ price_at prices 0
paid-all case driver duty prices one lawful serve =
    let orders = orders_of (partial_of duty) in
    let once : times 0 orders ≡ 1 = omega (arith, served-first case driver duty lawful, is-served 0 (partial_of duty) serve) in
    paid-once case driver duty prices one lawful ∙ share-one (price_at prices) 0 orders once

-- a duty serves nothing, or costs the fee at least
abbrev CostsFee : Case → ℕ → PartialDuty → Type 0
CostsFee case driver partial = (orders_of partial ≡ []) ⊎ (fee_or_none (driver_of case.week driver) ≤ cost_after case driver partial)

costs-fee : (case : Case) (driver : ℕ) (partial : PartialDuty) → CostsFee case driver partial
costs-fee case driver [] = inl refl
costs-fee case driver (step ∷ before) = inr (omega arith)

pub idle_least : (case : Case) (driver : ℕ) (pairs : Pairs) (prices : Prices) (pair : Pair) (fee price : ℕ) →
    IsOffer case driver pairs prices pair fee price → Idles pair fee price → IsLeast case driver pairs prices (pos 0) (record { steps = [] })
idle_least case driver pairs prices pair fee price offer idle = record {
  choice = record {
    lawful = record { partial = record { office = tt; hours = refl }; home = refl };
    inside = record {
      forced = λ o l h. absurd (not_forced idle (pair-first pairs driver (length case.week.orders) pair Forced o offer.one offer.is_pair l h));
      barred = λ o l h. refl;
    };
  };
  has_value = refl;
  lowest = λ duty c. by_cost duty c (costs-fee case driver (partial_of duty)) idle;
}
  where
    not_forced : Idles pair fee price → pair ≡ Forced → ⊥
    not_forced (inl barred) h = let bad : Barred ≡ Forced = sym barred ∙ h in cc
    not_forced (inr free) h = let bad : Free ≡ Forced = sym free.0 ∙ h in cc

    by_cost : (duty : Duty) → IsChoice case driver pairs duty → CostsFee case driver (partial_of duty) → Idles pair fee price →
        pos 0 ≤ℤ reduced_cost case driver prices (partial_of duty)
    by_cost duty c costs (inl barred) =
        let unserved = c.inside.barred 0 (omega (arith, offer.one)) (sym offer.is_pair ∙ barred) in
        let unpaid = paid-none case driver duty prices offer.one c.lawful unserved in
        omega (arith, ints, unpaid)
    by_cost duty c (inl none) (inr free) =
        let unpaid : worth (price_at prices) (orders_of (partial_of duty)) ≡ 0 = ap (worth (price_at prices)) none in omega (arith, ints, unpaid)
    by_cost duty c (inr costs) (inr free) =
        let paid = paid-most case driver duty prices offer.one c.lawful in
        let low = free.1 in
        omega (arith, ints, paid, low, costs, offer.is_fee, offer.is_price)

pub trip_least : (case : Case) (driver : ℕ) (pairs : Pairs) (prices : Prices) (pair : Pair) (fee price : ℕ) (value : ℤ) (duty : Duty) →
    IsOffer case driver pairs prices pair fee price → Works pair fee price → IsLawful case driver duty →
    cost_after case driver (partial_of duty) ≡ fee → serves 0 (partial_of duty) ≡ true → value ≡ pos fee -ℤ pos price →
    IsLeast case driver pairs prices value duty
trip_least case driver pairs prices pair fee price value duty offer works lawful cost serve is = record {
  choice = record {
    lawful = lawful;
    inside = record {
      forced = λ o l h. ap (λ (n : ℕ). serves n (partial_of duty)) (first o (length case.week.orders) offer.one l) ∙ serve;
      barred = λ o l h. absurd (not_barred works (pair-first pairs driver (length case.week.orders) pair Barred o offer.one offer.is_pair l h));
    };
  };
  has_value =
      let paid = paid-all case driver duty prices offer.one lawful serve in omega (arith, ints, paid, cost, is, offer.is_price);
  lowest = λ other c. by_cost other c (costs-fee case driver (partial_of other)) works;
}
  where
    not_barred : Works pair fee price → pair ≡ Barred → ⊥
    not_barred (inl forced) h = let bad : Forced ≡ Barred = sym forced ∙ h in cc
    not_barred (inr free) h = let bad : Free ≡ Barred = sym free.0 ∙ h in cc

    by_cost : (other : Duty) → IsChoice case driver pairs other → CostsFee case driver (partial_of other) → Works pair fee price →
        value ≤ℤ reduced_cost case driver prices (partial_of other)
    by_cost other c (inr costs) w =
        let paid = paid-most case driver other prices offer.one c.lawful in
        omega (arith, ints, paid, costs, is, offer.is_fee, offer.is_price)
    by_cost other c (inl none) (inr free) =
        let unpaid : worth (price_at prices) (orders_of (partial_of other)) ≡ 0 = ap (worth (price_at prices)) none in
        let dear = free.1 in
        omega (arith, ints, unpaid, dear, is)
    by_cost other c (inl none) (inl forced) =
        let some = is-served 0 (partial_of other) (c.inside.forced 0 (omega (arith, offer.one)) (sym offer.is_pair ∙ forced)) in
        let never : times 0 (orders_of (partial_of other)) ≡ 0 = ap (times 0) none in
        absurd (omega (arith, some, never))

-- the fee less the price, as it is computed
pub gain : (fee price : ℕ) → fee ≤ 10000000 → price ≤ 100000000 → to_z w64 (of_z w64 (to_z w64 fee -ℤ to_z w64 price)) ≡ pos fee -ℤ pos price
gain fee price low_fee low_price = omega (arith, ints)
