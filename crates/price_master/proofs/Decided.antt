-- At decided pairs the Lagrangian value is the cost of a plan of least duties.
use Rattle.std.proofs.Common.{◌≡◌, ℕ, zero, suc, ◌+◌, ◌≤◌, ◌<◌, Bool, true, false, List, [], ◌∷◌, length, refl, ap, sym, ◌∙◌, arith, eqb, ℤ, pos, ◌+ℤ◌, Some, slice_get}
use Rattle.std.proofs.lemmas.Int.{ints}
use Rattle.std.proofs.lemmas.Bool.Decides.{nat_tests}
use Rattle.duty_plan.specs.declared.duties.Duty.{Duty}
use Rattle.duty_plan.specs.declared.plans.Case.{Case}
use Rattle.duty_plan.specs.declared.plans.Plan.{Plan}
use Rattle.duty_plan.specs.declared.deciding.Pairs.{Pairs}
use Rattle.duty_plan.specs.declared.deciding.Pair.{Pair}
use Rattle.duty_plan.specs.declared.deciding.Pair.TheVariants.{Free, Forced, Barred}
use Rattle.duty_plan.specs.declared.pricing.Prices.{Prices}
use Rattle.duty_plan.specs.PartialDuties.{serves}
use Rattle.duty_plan.specs.Duties.{times, worth, carried, orders_of, partial_of, price_of, cost_of_duties, cost_of_plan, IsLawfulPlan}
use Rattle.duty_plan.specs.Values.{all_below, lagrangian_term, or_zero, sum_of, lagrangian, is_barred, barred_for_all, pair_at, price_at, reduced_cost, IsDecided, IsLeast}
use Rattle.duty_plan.specs.Sums.{total_below}
use Rattle.price_master.specs.Laws.{ForcesOnce, IsLeastPlan}
use Rattle.duty_plan.proofs.Sums.{worth-append, share, share-none, share-one, total-same, total-add, total-share}
use Rattle.duty_plan.proofs.Lists.{slice_get-lt}
use Rattle.price_master.proofs.Duality.{uncarried, all-at}
use Rattle.price_master.proofs.Carried.{served_by, get-below}
use Rattle.price_master.proofs.Falls.{barred-is}
use Rattle.duty_plan.proofs.Carrying.{served-once, served-known}
use Rattle.price_master.proofs.Once.{carried-known, carried-once, listed-known}

-- the drivers' least values and the prices of what the duties carry are the duties' cost
duties_same : (case : Case) (prices : Prices) (n : ℕ) (duties : List Duty) (least : List ℤ) → length least ≡ length duties →
    ((m k : ℕ) (duty : Duty) (v : ℤ) → m ≡ n + k → slice_get duties k ≡ Some duty → slice_get least k ≡ Some v →
    reduced_cost case m prices (partial_of duty) ≡ v) →
    (sum_of least +ℤ pos (worth (price_at prices) (carried duties))) ≡ pos (cost_of_duties case n duties)
duties_same case prices n [] [] same at = refl
duties_same case prices n [] (v ∷ vs) same at = absurd (omega arith)
duties_same case prices n (duty ∷ rest) [] same at = absurd (omega arith)
duties_same case prices n (duty ∷ rest) (v ∷ vs) same at =
    let here : reduced_cost case n prices (partial_of duty) ≡ v = at n 0 duty v (omega arith) refl refl in
    let more : (sum_of vs +ℤ pos (worth (price_at prices) (carried rest))) ≡ pos (cost_of_duties case (n + 1) rest) =
    duties_same case prices (n + 1) rest vs (omega arith) (λ m k d w e s t. at m (suc k) d w (omega arith) s t) in
    omega (arith, ints, worth-append (price_at prices) (orders_of (partial_of duty)) (carried rest))

some-not : (test : ℕ → Bool) (n : ℕ) → all_below test n ≡ false → (k : ℕ) × (k < n) × (test k ≡ false)
some-not test zero h = cc
some-not test (suc n) h = by_test (test n) refl (λ e. some-not test n e)
  where
    by_test : (b : Bool) → test n ≡ b → (all_below test n ≡ false → (k : ℕ) × (k < n) × (test k ≡ false)) →
        (k : ℕ) × (k < suc n) × (test k ≡ false)
    by_test false e more = (n, omega arith, e)
    by_test true e more =
        let rest : all_below test n ≡ false = sym (rw e refl) ∙ h in
        let found = more rest in
        (found.0, omega (arith, found.1), found.2)

pub is_exact : (case : Case) (pairs : Pairs) (prices : Prices) (least : List ℤ) (plan : Plan) →
    IsDecided case.week pairs → ForcesOnce case.week pairs → IsLeastPlan case pairs prices least plan →
    IsLawfulPlan case plan × (lagrangian case.week pairs prices least ≡ cost_of_plan case plan)
is_exact case pairs prices least plan decided forces_once is = (lawful, value)
  where
    at : (k : ℕ) (duty : Duty) → slice_get plan.duties k ≡ Some duty → (v : ℤ) × IsLeast case k pairs prices v duty
    at k duty e =
        let found = get-below least k (omega (arith, slice_get-lt plan.duties k duty e, is.duties, is.values)) in
        (found.0, is.each k found.0 duty found.1 e)

    below : (k : ℕ) (duty : Duty) → slice_get plan.duties k ≡ Some duty → k < length case.week.drivers
    below k duty e = omega (arith, slice_get-lt plan.duties k duty e, is.duties)

    unbarred : (k o : ℕ) (duty : Duty) → o < length case.week.orders → slice_get plan.duties k ≡ Some duty → serves o (partial_of duty) ≡ true →
        (p : Pair) → pair_at pairs k o ≡ p → pair_at pairs k o ≡ Forced
    unbarred k o duty l e s Free h = absurd (decided k o (below k duty e) l h)
    unbarred k o duty l e s Forced h = h
    unbarred k o duty l e s Barred h = let no = (at k duty e).1.choice.inside.barred o l h in cc

    one : (o : ℕ) → o < length case.week.orders → times o (carried plan.duties) ≤ 1
    one o l = carried-once o plan.duties
        (λ k duty e. served-once case.week _ _ o (partial_of duty) (at k duty e).1.choice.lawful.partial.office)
        (λ j k d e h i s t. forces_once j k o (below j d h) (below k e i) l
        (unbarred j o d l h s (pair_at pairs j o) refl) (unbarred k o e l i t (pair_at pairs k o) refl))

    once : (o : ℕ) → o < length case.week.orders → times o (carried plan.duties) + times o plan.out ≡ 1
    once o l = by_times (times o (carried plan.duties)) refl
      where
        by_times : (t : ℕ) → times o (carried plan.duties) ≡ t → times o (carried plan.duties) + times o plan.out ≡ 1
        by_times zero e = let out : times o plan.out ≡ 1 = is.rest o l ∙ rw e refl in omega arith
        by_times (suc t) e =
            let some : eqb (suc t) 0 ≡ false = grind (arith, nat_tests) in
            let out : times o plan.out ≡ 0 = is.rest o l ∙ rw (e, some) refl in omega (arith, one o l)

    lawful : IsLawfulPlan case plan
    lawful = record {
      duties = is.duties;
      lawful = λ k duty e. (at k duty e).1.choice.lawful;
      once = once;
      known = is.known;
    }

    serving : (k o : ℕ) → k < length case.week.drivers → o < length case.week.orders → (p : Pair) → pair_at pairs k o ≡ p → is_barred p ≡ false →
        1 ≤ times o (carried plan.duties)
    serving k o lk l Free h n = absurd (decided k o lk l h)
    serving k o lk l Barred h n = cc
    serving k o lk l Forced h n =
        let found = get-below plan.duties k (omega (arith, is.duties)) in
        served_by o k plan.duties found.0 found.1 ((at k found.0 found.1).1.choice.inside.forced o l h)

    charged : (o : ℕ) → o < length case.week.orders →
        lagrangian_term case.week pairs prices o ≡ share (price_at prices) o (carried plan.duties) + share (price_of case.week) o plan.out
    charged o l = by_bar (barred_for_all case.week pairs o) refl
      where
        by_bar : (b : Bool) → barred_for_all case.week pairs o ≡ b →
            lagrangian_term case.week pairs prices o ≡ share (price_at prices) o (carried plan.duties) + share (price_of case.week) o plan.out
        by_bar true e =
            let none : times o (carried plan.duties) ≡ 0 =
            uncarried o plan.duties (λ k duty h. (at k duty h).1.choice.inside.barred o l
            (barred-is _ (all-at (λ d. is_barred (pair_at pairs d o)) (length case.week.drivers) k e (below k duty h)))) in
            rw e (omega (
              arith,
              once o l,
              share-none (price_at prices) o (carried plan.duties) none,
              share-one (price_of case.week) o plan.out (omega (arith, once o l)),
            ))
        by_bar false e =
            let found = some-not (λ d. is_barred (pair_at pairs d o)) (length case.week.drivers) e in
            let some : 1 ≤ times o (carried plan.duties) = serving found.0 o found.1 l (pair_at pairs found.0 o) refl found.2 in
            rw e (omega (
              arith,
              share-one (price_at prices) o (carried plan.duties) (omega (arith, once o l)),
              share-none (price_of case.week) o plan.out (omega (arith, once o l)),
            ))

    value : lagrangian case.week pairs prices least ≡ cost_of_plan case plan
    value =
        let n = length case.week.orders in
        let lagrangian_terms : total_below (lagrangian_term case.week pairs prices) n ≡
        total_below (λ o. share (price_at prices) o (carried plan.duties) + share (price_of case.week) o plan.out) n =
        total-same _ _ n charged in
        let duties : (sum_of least +ℤ pos (worth (price_at prices) (carried plan.duties))) ≡ pos (cost_of_duties case 0 plan.duties) =
        duties_same case prices 0 plan.duties least (is.values ∙ sym is.duties) (λ m k duty v e s t. at_driver m k duty v e s t) in
        let whole : (pos (total_below (lagrangian_term case.week pairs prices) n) +ℤ sum_of least) ≡ pos (cost_of_plan case plan) =
        omega (
          arith,
          ints,
          total-add (λ o. share (price_at prices) o (carried plan.duties)) (λ o. share (price_of case.week) o plan.out) n,
          total-share (price_at prices) n (carried plan.duties)
              (λ o some. carried-known o n plan.duties (λ k duty e. served-known case.week _ _ o (partial_of duty) (at k duty e).1.choice.lawful.partial.office) some),
          total-share (price_of case.week) n plan.out (listed-known (length case.week.orders) plan.out is.known),
        ) in
        ap or_zero whole
      where
        at_driver : (m k : ℕ) (duty : Duty) (v : ℤ) → m ≡ 0 + k → slice_get plan.duties k ≡ Some duty → slice_get least k ≡ Some v →
            reduced_cost case m prices (partial_of duty) ≡ v
        at_driver m k duty v e s t =
            let same : k ≡ m = omega arith in
            (is.each m v duty (ap (slice_get least) (sym same) ∙ t) (ap (slice_get plan.duties) (sym same) ∙ s)).has_value
