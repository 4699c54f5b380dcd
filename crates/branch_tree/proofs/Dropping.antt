-- Walks along a list of answers, by what is left of it; and the cells of pairs.
use Rattle.std.proofs.Common.{◌≡◌, ◌⊎◌, inl, inr, ℕ, zero, suc, ◌+◌, ◌*◌, ◌/◌, ◌%◌, ◌<◌, ◌≤◌, length, get_or, refl, ap, ◌∙◌, arith}
use Rattle.std.proofs.lemmas.Nat.{mul-le}
use Rattle.std.proofs.Math.Nat.{div-add-mod}
use Rattle.week_book.specs.declared.weeks.Week.{Week}
use Rattle.duty_plan.specs.declared.deciding.Pair.TheVariants.{Free}
use Rattle.duty_plan.specs.declared.deciding.Pairs.{Pairs}
use Rattle.duty_plan.specs.Values.{IsPairs}
use Rattle.price_master.proofs.Lookups.{at-most}
use Rattle.branch_tree.specs.Leaving.{HasFreeIn}

-- a Free cell is that of a driver and an order
pub cell-free : (week : Week) (pairs : Pairs) (k : ℕ) → IsPairs week pairs → k < length pairs.cells → get_or pairs.cells k Free ≡ Free → HasFreeIn week pairs
cell-free week pairs k p l e =
    let n = length week.orders in
    (k / n, k % n, driver, order (length week.orders) refl, ap (λ m. get_or pairs.cells m Free) at ∙ e)
  where
    order : (n : ℕ) → length week.orders ≡ n → k % length week.orders < length week.orders
    order zero z = let none : length pairs.cells ≡ length week.drivers * 0 = p.cells ∙ ap (λ m. length week.drivers * m) z in absurd (omega arith)
    order (suc n) z = omega arith

    split : length week.orders * (k / length week.orders) + k % length week.orders ≡ k
    split = div-add-mod k (length week.orders)

    small : (q d n : ℕ) → n * q + k % length week.orders ≡ k → k < d * n → q < d
    small q d n s lk = by_order (at-most d q)
      where
        by_order : (d ≤ q) ⊎ (q < d) → q < d
        by_order (inl h) = let rows : d * n ≤ q * n = mul-le d n q n h (omega arith) in absurd (omega arith)
        by_order (inr h) = h

    driver : k / length week.orders < length week.drivers
    driver = small (k / length week.orders) (length week.drivers) (length week.orders) split (omega (arith, p.cells))

    at : (k / length week.orders) * pairs.orders + k % length week.orders ≡ k
    at = ap (λ m. (k / length week.orders) * m + k % length week.orders) p.orders ∙ omega (arith, split)
