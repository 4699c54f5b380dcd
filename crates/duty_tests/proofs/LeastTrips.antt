-- The least duties of two small weeks: a trip that serves every order, or none where the order is Barred.
use Rattle.std.proofs.Common.{◌≡◌, ◌⊎◌, ℕ, zero, suc, ◌+◌, ◌≤◌, ◌<◌, true, false, [], ◌∷◌, refl, ap, sym, ◌∙◌, inl, inr, arith, pos, negsuc, ◌-ℤ◌, length}
use Rattle.std.proofs.lemmas.Int.{ints}
use Rattle.duty_plan.specs.declared.duties.Duty.{Duty}
use Rattle.duty_plan.specs.declared.plans.Case.{Case}
use Rattle.duty_plan.specs.declared.deciding.Pair.{Pair}
use Rattle.duty_plan.specs.declared.deciding.Pair.TheVariants.{Free, Forced, Barred}
use Rattle.duty_plan.specs.declared.deciding.Pairs.{Pairs}
use Rattle.duty_plan.specs.declared.pricing.Prices.{Prices}
use Rattle.duty_plan.specs.PartialDuties.{serves}
use Rattle.duty_plan.specs.Duties.{orders_of, cost_after, partial_of, worth, times, IsLawful}
use Rattle.duty_plan.specs.Values.{pair_at, price_at, is_barred, IsInside, IsLeast}
use Rattle.duty_plan.specs.Sums.{total_below}
use Rattle.duty_plan.proofs.Sums.{share, total-share, total-same, share-none, share-one}
use Rattle.duty_plan.proofs.Carrying.{served-once, served-known, is-served, unserved}
use Rattle.sample_weeks.proofs.TripWeeks.{IsTripWeek, lowest-trip}

-- a lawful trip of 8,000 cents that serves every order is a least duty wherever it is inside
pub least-trip : (case : Case) (duty : Duty) (pairs : Pairs) (prices : Prices) (total : ℕ) → IsTripWeek case.week → 8000 ≤ total →
    total_below (price_at prices) (length case.week.orders) ≡ total → IsLawful case 0 duty → cost_after case 0 (partial_of duty) ≡ 8000 →
    worth (price_at prices) (orders_of (partial_of duty)) ≡ total → IsInside case.week pairs 0 (partial_of duty) →
    IsLeast case 0 pairs prices (pos 8000 -ℤ pos total) duty
least-trip case duty pairs prices total w enough sum lawful cost worth_all inside = record {
  choice = record { lawful = lawful; inside = inside };
  has_value = omega (arith, ints, cost, worth_all);
  lowest = lowest-trip case pairs prices total w sum enough;
}

-- what a duty is worth that serves each order of the week
pub worth-served : (case : Case) (duty : Duty) (prices : Prices) → IsLawful case 0 duty →
    ((o : ℕ) → o < length case.week.orders → serves o (partial_of duty) ≡ true) →
    worth (price_at prices) (orders_of (partial_of duty)) ≡ total_below (price_at prices) (length case.week.orders)
worth-served case duty prices lawful all =
    let office = lawful.partial.office in
    sym (total-share (price_at prices) (length case.week.orders) (orders_of (partial_of duty)) (λ o some. served-known case.week _ _ o (partial_of duty) office some))
    ∙ total-same (λ o. share (price_at prices) o (orders_of (partial_of duty))) (price_at prices) (length case.week.orders)
    (λ o l. share-one (price_at prices) o (orders_of (partial_of duty)) (once o l))
  where
    once : (o : ℕ) → o < length case.week.orders → times o (orders_of (partial_of duty)) ≡ 1
    once o l = omega (arith, served-once case.week _ _ o (partial_of duty) lawful.partial.office, is-served o (partial_of duty) (all o l))

below-one : (o : ℕ) → o < 1 → o ≡ 0
below-one o l = omega arith

-- where the one order is Barred, the empty duty is the least
pub least-barred : (case : Case) → length case.week.orders ≡ 1 →
    IsLeast case 0 (record { orders = 1; cells = Barred ∷ [] }) (record { cents = 9000 ∷ [] }) (pos 0) (record { steps = [] })
least-barred case one = record {
  choice = record {
    lawful = record { partial = record { office = tt; hours = refl }; home = refl };
    inside = record {
      forced = λ o l h. let same = below-one o (omega (arith, one, l)) in let barred : Barred ≡ Forced = rw same at h in cc;
      barred = λ o l h. refl;
    };
  };
  has_value = refl;
  lowest = λ duty c.
      let cents : Prices = record { cents = 9000 ∷ [] } in
      let partial = partial_of duty in
      let idle : serves 0 partial ≡ false = c.inside.barred 0 (omega (arith, one)) refl in
      let sum : total_below (λ o. share (price_at cents) o (orders_of partial)) (length case.week.orders) ≡ share (price_at cents) 0 (orders_of partial) + 0 =
      ap (total_below (λ o. share (price_at cents) o (orders_of partial))) one in
      let free : worth (price_at cents) (orders_of partial) ≡ 0 =
      omega (
        arith,
        sum,
        total-share (price_at cents) (length case.week.orders) (orders_of partial) (λ o some. served-known case.week _ _ o partial c.lawful.partial.office some),
        share-none (price_at cents) 0 (orders_of partial) (unserved 0 partial idle),
      ) in
      omega (arith, ints, free);
}

-- a trip with the one order is the least duty, unless the order is Barred
pub one-trip : (case : Case) (duty : Duty) (pair : Pair) (cents : ℕ) → IsTripWeek case.week → length case.week.orders ≡ 1 → is_barred pair ≡ false →
    IsLawful case 0 duty → cents ≡ 8000 → cents ≡ cost_after case 0 (partial_of duty) → serves 0 (partial_of duty) ≡ true →
    IsLeast case 0 (record { orders = 1; cells = pair ∷ [] }) (record { cents = 9000 ∷ [] }) (negsuc 999) duty
one-trip case duty pair cents w one free lawful paid cost serve =
    let prices : Prices = record { cents = 9000 ∷ [] } in
    let sum : total_below (price_at prices) (length case.week.orders) ≡ 9000 = ap (total_below (price_at prices)) one in
    let all : (o : ℕ) → o < length case.week.orders → serves o (partial_of duty) ≡ true =
    λ o l. let same = below-one o (omega (arith, one, l)) in rw same serve in
    least-trip case duty (record { orders = 1; cells = pair ∷ [] }) prices 9000 w (omega arith) sum lawful (omega (arith, paid, cost))
    (worth-served case duty prices lawful all ∙ sum)
    (record {
      forced = λ o l h. all o l;
      barred = λ o l h. let same = below-one o (omega (arith, one, l)) in
          let is : pair ≡ Barred = rw same at h in
          let yes : is_barred pair ≡ true = rw is refl in
          cc;
    })

below-two : (o : ℕ) → o < 2 → (o ≡ 0) ⊎ (o ≡ 1)
below-two zero l = inl refl
below-two (suc zero) l = inr refl
below-two (suc (suc o)) l = absurd (omega arith)

-- a trip with both orders is the least duty where both are Free
pub two-trip : (case : Case) (duty : Duty) (cents : ℕ) → IsTripWeek case.week → length case.week.orders ≡ 2 →
    IsLawful case 0 duty → cents ≡ 8000 → cents ≡ cost_after case 0 (partial_of duty) → serves 0 (partial_of duty) ≡ true → serves 1 (partial_of duty) ≡ true →
    IsLeast case 0 (record { orders = 2; cells = Free ∷ Free ∷ [] }) (record { cents = 9000 ∷ 4500 ∷ [] }) (negsuc 5499) duty
two-trip case duty cents w two lawful paid cost serve_a serve_b =
    let prices : Prices = record { cents = 9000 ∷ 4500 ∷ [] } in
    let sum : total_below (price_at prices) (length case.week.orders) ≡ 13500 = ap (total_below (price_at prices)) two in
    let all : (o : ℕ) → o < length case.week.orders → serves o (partial_of duty) ≡ true = λ o l. by_order o (below-two o (omega (arith, two, l))) in
    least-trip case duty (record { orders = 2; cells = Free ∷ Free ∷ [] }) prices 13500 w (omega arith) sum lawful (omega (arith, paid, cost))
    (worth-served case duty prices lawful all ∙ sum)
    (record { forced = λ o l h. all o l; barred = λ o l h. by_cell o (below-two o (omega (arith, two, l))) h })
  where
    by_order : (o : ℕ) → (o ≡ 0) ⊎ (o ≡ 1) → serves o (partial_of duty) ≡ true
    by_order o (inl e) = rw e serve_a
    by_order o (inr e) = rw e serve_b

    by_cell : (o : ℕ) → (o ≡ 0) ⊎ (o ≡ 1) → pair_at (record { orders = 2; cells = Free ∷ Free ∷ [] }) 0 o ≡ Barred → serves o (partial_of duty) ≡ false
    by_cell o (inl e) h = let barred : Free ≡ Barred = rw e at h in cc
    by_cell o (inr e) h = let barred : Free ≡ Barred = rw e at h in cc
