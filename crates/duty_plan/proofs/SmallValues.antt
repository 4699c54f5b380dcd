-- How large the numbers of a pricing may be.
use Rattle.std.proofs.Common.{◌≡◌, ℕ, zero, suc, ◌*◌, ◌<◌, ◌≤◌, Bool, true, false, length, refl, arith, Option, Some, None}
use Rattle.std.proofs.lemmas.Int.{ints}
use Rattle.week_book.specs.declared.weeks.Order.{Order}
use Rattle.week_book.specs.declared.weeks.Week.{Week}
use Rattle.week_book.specs.Weeks.{IsWeek, IsOrder, order_of}
use Rattle.duty_plan.specs.PartialDuties.{serves}
use Rattle.duty_plan.specs.Duties.{partial_of, orders_of, times, price_of, price_or_none}
use Rattle.duty_plan.specs.Sums.{total_below}
use Rattle.duty_plan.specs.Values.{price_at}
use Rattle.duty_plan.specs.PricingLaws.{LeastIsSmall}
use Rattle.duty_plan.proofs.Sums.{share, share-none, share-one, total-mono, total-share}
use Rattle.duty_plan.proofs.Carrying.{unserved, is-served, served-once, served-known}
use Rattle.duty_plan.proofs.WeekLimits.{all-slice_get}
use Rattle.duty_plan.proofs.Answering.{cost-small}

same-all : (n : ℕ) → total_below (λ o. 100000000) n ≡ 100000000 * n
same-all zero = refl
same-all (suc n) = omega (arith, same-all n)

price-most : (week : Week) (o : ℕ) → IsWeek week → price_of week o ≤ 100000000
price-most week o w = by_order (order_of week o) refl
  where
    by_order : (found : Option Order) → order_of week o ≡ found → price_or_none found ≤ 100000000
    by_order None e = omega arith
    by_order (Some order) e = (all-slice_get (IsOrder (length week.places)) week.orders o order w.orders e).price

pub least_is_small : LeastIsSmall
least_is_small case driver pairs prices value duty c p l =
    let cost = cost-small case driver duty c l.choice.lawful in
    let n = length case.week.orders in
    let few = c.week.few.2 in
    let worths = total-share (price_at prices) n (orders_of (partial_of duty)) (λ o t. served-known case.week _ _ o (partial_of duty) l.choice.lawful.partial.office t) in
    let most : total_below (λ o. share (price_at prices) o (orders_of (partial_of duty))) n ≤ total_below (λ o. 100000000) n =
    total-mono (λ o. share (price_at prices) o (orders_of (partial_of duty))) (λ o. 100000000) n (λ o lo. small o lo) in
    let all = same-all n in
    let is = l.has_value in
    (omega (arith, ints), omega (arith, ints))
  where
    small : (o : ℕ) → o < length case.week.orders → share (price_at prices) o (orders_of (partial_of duty)) ≤ 100000000
    small o lo = by_served (serves o (partial_of duty)) refl
      where
        by_served : (b : Bool) → serves o (partial_of duty) ≡ b → share (price_at prices) o (orders_of (partial_of duty)) ≤ 100000000
        by_served false e = omega (arith, share-none (price_at prices) o (orders_of (partial_of duty)) (unserved o (partial_of duty) e))
        by_served true e =
            let one : times o (orders_of (partial_of duty)) ≡ 1 =
            omega (arith, served-once case.week _ _ o (partial_of duty) l.choice.lawful.partial.office, is-served o (partial_of duty) e) in
            omega (arith, share-one (price_at prices) o (orders_of (partial_of duty)) one, p.most o lo, price-most case.week o c.week)
