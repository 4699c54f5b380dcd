-- The Lagrangian value is at most the cost of every lawful plan inside.
use Rattle.std.proofs.Common.{◌≡◌, ◌≢◌, ◌&&◌, ◌||◌, ℕ, zero, suc, ◌+◌, ◌≤◌, ◌<◌, Bool, true, false, List, [], ◌∷◌, length, refl, ap, sym, ◌∙◌, arith, eqb, ℤ, pos, negsuc, ◌+ℤ◌, ◌≤ℤ◌, Some, slice_get}
use Rattle.std.proofs.lemmas.Int.{ints}
use Rattle.std.proofs.lemmas.Bool.Decides.{nat_tests}
use Rattle.duty_plan.specs.declared.duties.Duty.{Duty}
use Rattle.duty_plan.specs.declared.plans.Case.{Case}
use Rattle.duty_plan.specs.declared.plans.Plan.{Plan}
use Rattle.duty_plan.specs.declared.deciding.Pairs.{Pairs}
use Rattle.duty_plan.specs.declared.deciding.Pair.{Pair}
use Rattle.duty_plan.specs.declared.deciding.Pair.TheVariants.{Free, Forced, Barred}
use Rattle.duty_plan.specs.declared.pricing.Prices.{Prices}
use Rattle.duty_plan.specs.PartialDuties.{serves}
use Rattle.duty_plan.specs.Duties.{times, worth, carried, orders_of, partial_of, price_of, cost_of_duties, cost_of_plan, IsLawfulPlan}
use Rattle.duty_plan.specs.Values.{all_below, lagrangian_term, or_zero, sum_of, lagrangian, is_barred, barred_for_all, pair_at, price_at, reduced_cost, IsPlanInside, IsPrices, AreLeastValues}
use Rattle.duty_plan.specs.Sums.{total_below}
use Rattle.duty_plan.proofs.Carrying.{unserved}
use Rattle.duty_plan.proofs.Lists.{slice_get-lt}
use Rattle.duty_plan.proofs.Sums.{worth-append, times-append, share, share-one, total-mono, total-add, total-share_le}

pub or_parts : (a b : Bool) → (a || b) ≡ false → (a ≡ false) × (b ≡ false)
or_parts true b h = cc
or_parts false b h = (refl, h)

-- an order that no duty serves is not carried
pub uncarried : (o : ℕ) (duties : List Duty) →
    ((k : ℕ) (duty : Duty) → slice_get duties k ≡ Some duty → serves o (partial_of duty) ≡ false) → times o (carried duties) ≡ 0
uncarried o [] h = refl
uncarried o (duty ∷ rest) h =
    let here : times o (orders_of (partial_of duty)) ≡ 0 = unserved o (partial_of duty) (h 0 duty refl) in
    let more : times o (carried rest) ≡ 0 = uncarried o rest (λ k d e. h (suc k) d e) in
    omega (arith, times-append o (orders_of (partial_of duty)) (carried rest))

pub and_parts : (a b : Bool) → (a && b) ≡ true → (a ≡ true) × (b ≡ true)
and_parts true b h = (refl, h)
and_parts false b h = cc

all-at_step : (test : ℕ → Bool) (n k : ℕ) (b : Bool) → eqb k n ≡ b → test n ≡ true → k < suc n → (k < n → test k ≡ true) → test k ≡ true
all-at_step test n k true e here l more = let same : n ≡ k = grind (arith, nat_tests) in rw (← same) here
all-at_step test n k false e here l more = let other : k ≢ n = grind (arith, nat_tests) in more (omega arith)

pub all-at : (test : ℕ → Bool) (n k : ℕ) → all_below test n ≡ true → k < n → test k ≡ true
all-at test zero k h l = absurd (omega arith)
all-at test (suc n) k h l =
    let parts = and_parts (test n) (all_below test n) h in
    all-at_step test n k (eqb k n) refl parts.0 l (λ s. all-at test n k parts.1 s)

is-barred : (p : Pair) → is_barred p ≡ true → p ≡ Barred
is-barred Free h = cc
is-barred Forced h = cc
is-barred Barred h = refl

-- an order that is Barred for all drivers is carried by none
barred-uncarried : (case : Case) (pairs : Pairs) (plan : Plan) (o : ℕ) → o < length case.week.orders → IsLawfulPlan case plan →
    IsPlanInside case.week pairs plan → barred_for_all case.week pairs o ≡ true → times o (carried plan.duties) ≡ 0
barred-uncarried case pairs plan o l lawful inside all =
    uncarried o plan.duties (λ k duty e.
    (inside k duty e).barred o l (is-barred _ (all-at (λ d. is_barred (pair_at pairs d o)) (length case.week.drivers) k all
    (omega (arith, slice_get-lt plan.duties k duty e, lawful.duties)))))

-- what an order adds to the Lagrangian value is at most what the plan pays for it
charged : (case : Case) (pairs : Pairs) (prices : Prices) (plan : Plan) (o : ℕ) → o < length case.week.orders → IsPrices case.week prices →
    IsLawfulPlan case plan → IsPlanInside case.week pairs plan →
    lagrangian_term case.week pairs prices o ≤ share (price_at prices) o (carried plan.duties) + share (price_of case.week) o plan.out
charged case pairs prices plan o l priced lawful inside = by_times (barred_for_all case.week pairs o) refl (times o (carried plan.duties)) refl
  where
    by_times : (b : Bool) → barred_for_all case.week pairs o ≡ b → (t : ℕ) → times o (carried plan.duties) ≡ t →
        lagrangian_term case.week pairs prices o ≤ share (price_at prices) o (carried plan.duties) + share (price_of case.week) o plan.out
    by_times b all zero e =
        let out : share (price_of case.week) o plan.out ≡ price_of case.week o =
        share-one (price_of case.week) o plan.out (omega (arith, lawful.once o l)) in
        by_bar b all out
      where
        by_bar : (b : Bool) → barred_for_all case.week pairs o ≡ b → share (price_of case.week) o plan.out ≡ price_of case.week o →
            lagrangian_term case.week pairs prices o ≤ share (price_at prices) o (carried plan.duties) + share (price_of case.week) o plan.out
        by_bar true all out = rw all (omega arith)
        by_bar false all out = rw all (omega (arith, priced.most o l))
    by_times true all (suc t) e = absurd (omega (arith, barred-uncarried case pairs plan o l lawful inside all))
    by_times false all (suc t) e =
        let one : times o (carried plan.duties) ≡ 1 = omega (arith, lawful.once o l) in
        rw all (omega (arith, share-one (price_at prices) o (carried plan.duties) one))

-- the drivers' least values, and the prices of what the duties carry, are at most the duties' cost
pub duties_below : (case : Case) (prices : Prices) (n : ℕ) (duties : List Duty) (least : List ℤ) → length least ≡ length duties →
    ((m k : ℕ) (duty : Duty) (v : ℤ) → m ≡ n + k → slice_get duties k ≡ Some duty → slice_get least k ≡ Some v →
    v ≤ℤ reduced_cost case m prices (partial_of duty)) →
    (sum_of least +ℤ pos (worth (price_at prices) (carried duties))) ≤ℤ pos (cost_of_duties case n duties)
duties_below case prices n [] [] same below = omega (arith, ints)
duties_below case prices n [] (v ∷ vs) same below = absurd (omega arith)
duties_below case prices n (duty ∷ rest) [] same below = absurd (omega arith)
duties_below case prices n (duty ∷ rest) (v ∷ vs) same below =
    let here : v ≤ℤ reduced_cost case n prices (partial_of duty) = below n 0 duty v (omega arith) refl refl in
    let more : (sum_of vs +ℤ pos (worth (price_at prices) (carried rest))) ≤ℤ pos (cost_of_duties case (n + 1) rest) =
    duties_below case prices (n + 1) rest vs (omega arith) (λ m k d w e s t. below m (suc k) d w (omega arith) s t) in
    omega (arith, ints, worth-append (price_at prices) (orders_of (partial_of duty)) (carried rest))

pub or_zero-le : (z : ℤ) (n : ℕ) → z ≤ℤ pos n → or_zero z ≤ n
or_zero-le (pos m) n h = omega (arith, ints)
or_zero-le (negsuc m) n h = omega arith

pub is_below : (case : Case) (pairs : Pairs) (prices : Prices) (least : List ℤ) (plan : Plan) →
    IsPrices case.week prices → AreLeastValues case pairs prices least → IsLawfulPlan case plan →
    IsPlanInside case.week pairs plan → lagrangian case.week pairs prices least ≤ cost_of_plan case plan
is_below case pairs prices least plan priced values lawful inside =
    let n = length case.week.orders in
    let lagrangian_terms : total_below (lagrangian_term case.week pairs prices) n ≤
    total_below (λ o. share (price_at prices) o (carried plan.duties) + share (price_of case.week) o plan.out) n =
    total-mono _ _ n (λ o l. charged case pairs prices plan o l priced lawful inside) in
    let duties : (sum_of least +ℤ pos (worth (price_at prices) (carried plan.duties))) ≤ℤ pos (cost_of_duties case 0 plan.duties) =
    duties_below case prices 0 plan.duties least (values.drivers ∙ sym lawful.duties) (λ m k duty v e s t. at_driver m k duty v e s t) in
    let small : (pos (total_below (lagrangian_term case.week pairs prices) n) +ℤ sum_of least) ≤ℤ pos (cost_of_plan case plan) =
    omega (
      arith,
      ints,
      total-add (λ o. share (price_at prices) o (carried plan.duties)) (λ o. share (price_of case.week) o plan.out) n,
      total-share_le (price_at prices) n (carried plan.duties),
      total-share_le (price_of case.week) n plan.out,
    ) in
    or_zero-le _ _ small
  where
    at_driver : (m k : ℕ) (duty : Duty) (v : ℤ) → m ≡ 0 + k → slice_get plan.duties k ≡ Some duty → slice_get least k ≡ Some v →
        v ≤ℤ reduced_cost case m prices (partial_of duty)
    at_driver m k duty v e s t =
        let same : k ≡ m = omega arith in
        let has : slice_get least m ≡ Some v = ap (slice_get least) (sym same) ∙ t in
        let gives : slice_get plan.duties m ≡ Some duty = ap (slice_get plan.duties) (sym same) ∙ s in
        (values.each m v has).1.lowest duty (record { lawful = lawful.lawful m duty gives; inside = inside m duty gives })
