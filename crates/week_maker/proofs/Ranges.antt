-- What is drawn lies in its range, and a week has 148 rows.
use Rattle.std.proofs.Common.{◌≡◌, ℕ, zero, suc, ◌+◌, ◌*◌, List, [], ◌∷◌, ◌++◌, length, refl, arith, length-append}
use Rattle.week_maker.specs.Rows.{Row, rows_for_each}
use Rattle.week_maker.specs.MadeWeeks.{made_order, hub_legs, ring_legs, ring_seed, driver_rows, order_rows, order_seed, place_row, week_row}
use Rattle.week_maker.specs.Ranges.{IsOrderInRange, IsWeekInRange}

-- an order that was drawn is in range
pub order-in-range : (seed : ℕ) → IsOrderInRange (made_order seed)
order-in-range seed = record {
  place = (omega arith, omega arith);
  window = omega arith;
  day = omega arith;
  week = omega arith;
  service = (omega arith, omega arith);
  kg = (omega arith, omega arith);
  price = (omega arith, omega arith);
}

-- as many rows as each number has, for each
length-rows : (n each : ℕ) (rows_of : ℕ → List Row) → ((i : ℕ) → length (rows_of i) ≡ each) → length (rows_for_each n rows_of) ≡ n * each
unfolding rows_for_each
length-rows zero each rows_of all = omega arith
length-rows (suc n) each rows_of all =
    let front = length-rows n each rows_of all in
    let joined = length-append (rows_for_each n rows_of) (rows_of (suc n)) in
    let last = all (suc n) in
    grind (arith, front, joined, last)

-- the length of six lists in one
six-lengths : (a b c d e f : List Row) (l m n o p q : ℕ) → length a ≡ l → length b ≡ m → length c ≡ n → length d ≡ o
    → length e ≡ p → length f ≡ q → length (a ++ (b ++ (c ++ (d ++ (e ++ f))))) ≡ l + (m + (n + (o + (p + q))))
six-lengths a b c d e f l m n o p q al bl cl dl el fl =
    rw (
      length-append a (b ++ (c ++ (d ++ (e ++ f)))),
      length-append b (c ++ (d ++ (e ++ f))),
      length-append c (d ++ (e ++ f)),
      length-append d (e ++ f),
      length-append e f,
      al,
      bl,
      cl,
      dl,
      el,
      fl,
    ) refl

-- the week of each seed is in range
pub week-in-range : (seed : ℕ) → IsWeekInRange seed
week-in-range seed = record {
  rows = six-lengths (week_row ∷ place_row 0 ∷ []) (rows_for_each 12 (λ place. place_row place ∷ [])) (rows_for_each 12 (hub_legs seed))
      (rows_for_each 11 (ring_legs (ring_seed seed))) (rows_for_each 12 driver_rows) (rows_for_each 40 (order_rows (order_seed seed)))
      2 12 24 22 48 40
      refl
      (length-rows 12 1 (λ place. place_row place ∷ []) (λ i. refl))
      (length-rows 12 2 (hub_legs seed) (λ i. refl))
      (length-rows 11 2 (ring_legs (ring_seed seed)) (λ i. refl))
      (length-rows 12 4 driver_rows (λ i. refl))
      (length-rows 40 1 (order_rows (order_seed seed)) (λ i. refl));
  hub = λ place. (omega arith, omega arith);
  ring = λ place. (omega arith, omega arith);
  orders = λ number. order-in-range _;
}
