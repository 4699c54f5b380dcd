-- A part of what subcontractors take makes prices.
use Rattle.std.proofs.Common.{◌≡◌, ℕ, zero, suc, ◌*◌, ◌/◌, ◌≤◌, List, [], ◌∷◌, map, length, get_or, refl, ap, sym, ◌∙◌, subst, arith, slice_get}
use Rattle.std.proofs.Math.Nat.{div-le_of_le-mul}
use Rattle.week_book.specs.declared.weeks.Order.{Order}
use Rattle.week_book.specs.declared.weeks.Week.{Week}
use Rattle.duty_plan.specs.declared.pricing.Prices.{Prices}
use Rattle.duty_plan.specs.Duties.{price_of, price_or_none}
use Rattle.duty_plan.specs.Values.{IsPrices, price_at}

-- the part of a price
abbrev pub part_of : ℕ → Order → ℕ
part_of percent order = order.price * percent / 100

part-at : (percent : ℕ) (orders : List Order) (o : ℕ) →
    get_or (map (part_of percent) orders) o 0 ≡ price_or_none (slice_get orders o) * percent / 100
part-at percent [] o = omega arith
part-at percent (x ∷ xs) zero = refl
part-at percent (x ∷ xs) (suc o) = part-at percent xs o

parts-long : (percent : ℕ) (orders : List Order) → length (map (part_of percent) orders) ≡ length orders
parts-long percent [] = refl
parts-long percent (x ∷ xs) = ap suc (parts-long percent xs)

within : (price percent : ℕ) → percent ≤ 100 → price * percent ≤ 100 * price
within zero percent few = omega arith
within (suc price) percent few = omega (arith, few, within price percent few)

pub part_prices : (week : Week) (prices : Prices) (percent : ℕ) → percent ≤ 100 → prices.cents ≡ map (part_of percent) week.orders → IsPrices week prices
part_prices week prices percent few e = record {
  orders = ap length e ∙ parts-long percent week.orders;
  most = λ o l.
      let same : price_at prices o ≡ price_of week o * percent / 100 = ap (λ (xs : List ℕ). get_or xs o 0) e ∙ part-at percent week.orders o in
      subst (λ (n : ℕ). n ≤ price_of week o) (sym same) (div-le_of_le-mul 100 (within (price_of week o) percent few));
}
