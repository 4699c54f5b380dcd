-- The plan of one duty at the start prices.
use Rattle.std.proofs.Common.{◌≡◌, ℕ, ◌+◌, ◌<◌, List, length, get_or, Bool, true, false, cond, refl, ap, ◌∙◌, arith}
use Rattle.std.proofs.lemmas.Int.{ints}
use Rattle.duty_plan.specs.PartialDuties.{serves}
use Rattle.duty_plan.specs.Duties.{IsLawful, partial_of, cost_of_plan, orders_of, times, price_of}
use Rattle.duty_plan.specs.Sums.{total_below}
use Rattle.duty_plan.specs.Values.{price_at}
use Rattle.price_master.specs.Laws.{CostsAtStart, lone_cost}
use Rattle.duty_plan.proofs.Sums.{share, share-none, share-one, total-same, total-add, total-share}
use Rattle.duty_plan.proofs.Carrying.{unserved, is-served, served-once, served-known}
use Rattle.price_master.proofs.Whole.{start-at}
use Rattle.price_master.proofs.Lone.{costs_alone}

pub costs_at_start : CostsAtStart
costs_at_start case driver prices duty plan start lone =
    let n = length case.week.orders in
    let lawful : IsLawful case driver duty = lone.lawful.lawful driver duty lone.given in
    let cost : cost_of_plan case plan ≡ lone_cost case driver duty = costs_alone case driver duty plan lone in
    let parts : total_below (price_of case.week) n ≡ total_below (λ o. cond (serves o (partial_of duty)) 0 (price_of case.week o) + share (price_at prices) o (orders_of (partial_of duty))) n =
    total-same _ _ n (λ o l. part lawful o l) in
    let sum = total-add (λ o. cond (serves o (partial_of duty)) 0 (price_of case.week o)) (λ o. share (price_at prices) o (orders_of (partial_of duty))) n in
    let worths = total-share (price_at prices) n (orders_of (partial_of duty)) (λ o t. served-known case.week _ _ o (partial_of duty) lawful.partial.office t) in
    omega (arith, ints)
  where
    same : (o : ℕ) → price_at prices o ≡ price_of case.week o
    same o = ap (λ (xs : List ℕ). get_or xs o 0) start ∙ start-at case.week.orders o

    part : IsLawful case driver duty → (o : ℕ) → o < length case.week.orders →
        price_of case.week o ≡ cond (serves o (partial_of duty)) 0 (price_of case.week o) + share (price_at prices) o (orders_of (partial_of duty))
    part lawful o l = by_served (serves o (partial_of duty)) refl
      where
        by_served : (b : Bool) → serves o (partial_of duty) ≡ b →
            price_of case.week o ≡ cond (serves o (partial_of duty)) 0 (price_of case.week o) + share (price_at prices) o (orders_of (partial_of duty))
        by_served false e = rw e (omega (arith, share-none (price_at prices) o (orders_of (partial_of duty)) (unserved o (partial_of duty) e)))
        by_served true e =
            let one : times o (orders_of (partial_of duty)) ≡ 1 =
            omega (arith, served-once case.week _ _ o (partial_of duty) lawful.partial.office, is-served o (partial_of duty) e) in
            rw e (omega (arith, same o, share-one (price_at prices) o (orders_of (partial_of duty)) one))
