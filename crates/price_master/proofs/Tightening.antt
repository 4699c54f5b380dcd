-- The Lagrangian value from a node to any node below it.
use Rattle.std.proofs.Common.{◌≡◌, ℕ, ◌<◌, ◌≤◌, Bool, true, false, length, refl, ap, sym, subst, ◌∙◌, arith, ℤ, pos, ◌+ℤ◌, ◌≤ℤ◌, Some, slice_get}
use Rattle.std.proofs.lemmas.Int.{ints}
use Rattle.duty_plan.specs.declared.plans.Case.{Case}
use Rattle.duty_plan.specs.declared.deciding.Pairs.{Pairs}
use Rattle.duty_plan.specs.declared.pricing.Prices.{Prices}
use Rattle.duty_plan.specs.PartialDuties.{PartialDuty}
use Rattle.duty_plan.specs.Duties.{partial_of}
use Rattle.duty_plan.specs.Sums.{total_below}
use Rattle.duty_plan.specs.Values.{pair_at, IsPrices, IsInside, reduced_cost, sum_of, is_barred, barred_for_all, lagrangian_term}
use Rattle.price_master.specs.Laws.{ChildTightens, NeverFalls, NeverFallsBelow, Tightens}
use Rattle.duty_plan.proofs.Sums.{total-mono}
use Rattle.duty_plan.proofs.Lists.{slice_get-lt}
use Rattle.price_master.proofs.Falls.{stays-forced, stays-barred, all-more, barred-is, sum-grows, or_zero-mono}

pub child_tightens : ChildTightens
child_tightens case path decision node child free pn pc = record {
  forced = λ k q lk lq h. stays-forced case path decision node child k q lk lq pn pc h;
  barred = λ k q lk lq h. stays-barred case path decision node child k q lk lq free pn pc h;
}

inside-node : (case : Case) (node below : Pairs) (k : ℕ) (partial : PartialDuty) → k < length case.week.drivers → Tightens case.week node below →
    IsInside case.week below k partial → IsInside case.week node k partial
inside-node case node below k partial lk t i = record {
  forced = λ q l h. i.forced q l (t.forced k q lk l h);
  barred = λ q l h. i.barred q l (t.barred k q lk l h);
}

lagrangian_term-grows : (case : Case) (node below : Pairs) (prices : Prices) (o : ℕ) → o < length case.week.orders → Tightens case.week node below →
    IsPrices case.week prices → lagrangian_term case.week node prices o ≤ lagrangian_term case.week below prices o
lagrangian_term-grows case node below prices o l t priced = by_bar (barred_for_all case.week node o) refl (barred_for_all case.week below o) refl
  where
    by_bar : (a : Bool) → barred_for_all case.week node o ≡ a → (b : Bool) → barred_for_all case.week below o ≡ b →
        lagrangian_term case.week node prices o ≤ lagrangian_term case.week below prices o
    by_bar true e true f = rw (e, f) (omega arith)
    by_bar true e false f =
        let also : barred_for_all case.week below o ≡ true =
        all-more (λ d. is_barred (pair_at node d o)) (λ d. is_barred (pair_at below d o)) (length case.week.drivers)
        (λ k lk h. ap is_barred (t.barred k o lk l (barred-is _ h))) e in cc
    by_bar false e true f = rw (e, f) (priced.most o l)
    by_bar false e false f = rw (e, f) (omega arith)

pub never_falls_below : NeverFallsBelow
never_falls_below case node below prices least more t priced at_node at_below =
    let n = length case.week.orders in
    let lagrangian_terms : total_below (lagrangian_term case.week node prices) n ≤ total_below (lagrangian_term case.week below prices) n =
    total-mono _ _ n (λ o l. lagrangian_term-grows case node below prices o l t priced) in
    let sums : sum_of least ≤ℤ sum_of more = sum-grows 0 least more (at_node.drivers ∙ sym at_below.drivers) (λ k x y e f. at_driver k x y e f) in
    let all : (pos (total_below (lagrangian_term case.week node prices) n) +ℤ sum_of least) ≤ℤ
    (pos (total_below (lagrangian_term case.week below prices) n) +ℤ sum_of more) = omega (arith, ints) in
    or_zero-mono _ _ all
  where
    at_driver : (k : ℕ) (x y : ℤ) → slice_get least k ≡ Some x → slice_get more k ≡ Some y → x ≤ℤ y
    at_driver k x y e f =
        let lk : k < length case.week.drivers = omega (arith, slice_get-lt least k x e, at_node.drivers) in
        let duty = (at_below.each k y f).0 in
        let there = (at_below.each k y f).1 in
        let low : x ≤ℤ reduced_cost case k prices (partial_of duty) = (at_node.each k x e).1.lowest duty (record {
          lawful = there.choice.lawful;
          inside = inside-node case node below k (partial_of duty) lk t there.choice.inside;
        }) in
        subst (λ (v : ℤ). x ≤ℤ v) there.has_value low

-- so it is from a node to its child
pub never_falls : NeverFalls
never_falls case path decision node child prices least more free pn pc priced at_node at_child =
    never_falls_below case node child prices least more (child_tightens case path decision node child free pn pc) priced at_node at_child
