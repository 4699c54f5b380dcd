-- What a plan of one duty costs.
use Rattle.std.proofs.Common.{◌≡◌, ◌≢◌, ℕ, zero, suc, ◌+◌, ◌≤◌, ◌<◌, Bool, true, false, cond, List, [], ◌∷◌, length, reverse, refl, ap, ◌∙◌, arith, Some, slice_get}
use Rattle.duty_plan.specs.declared.duties.Step.{Step}
use Rattle.duty_plan.specs.declared.duties.Duty.{Duty}
use Rattle.duty_plan.specs.declared.plans.Case.{Case}
use Rattle.duty_plan.specs.declared.plans.Plan.{Plan}
use Rattle.duty_plan.specs.PartialDuties.{serves}
use Rattle.duty_plan.specs.Duties.{times, worth, carried, orders_of, partial_of, price_of, cost_after, cost_of_duties, cost_of_plan}
use Rattle.duty_plan.specs.Sums.{total_below}
use Rattle.duty_plan.specs.Trees.{IsSingleDutyPlan}
use Rattle.price_master.specs.Laws.{lone_cost}
use Rattle.duty_plan.proofs.Sums.{times-append, share, share-none, share-one, total-same, total-share}
use Rattle.duty_plan.proofs.Carrying.{unserved}
use Rattle.price_master.proofs.Carried.{served}
use Rattle.price_master.proofs.Once.{listed-known}

-- each duty is the empty one
abbrev AllEmpty : List Duty → Type 0
AllEmpty duties = (k : ℕ) (duty : Duty) → slice_get duties k ≡ Some duty → duty.steps ≡ []

empty-cost : (case : Case) (n : ℕ) (duty : Duty) → duty.steps ≡ [] → cost_after case n (partial_of duty) ≡ 0
empty-cost case n duty e = ap (λ (xs : List Step). cost_after case n (reverse xs)) e

empty-orders : (o : ℕ) (duty : Duty) → duty.steps ≡ [] → times o (orders_of (partial_of duty)) ≡ 0
empty-orders o duty e = ap (λ (xs : List Step). times o (orders_of (reverse xs))) e

-- empty duties cost nothing, and carry nothing
empties-cost : (case : Case) (n : ℕ) (duties : List Duty) → AllEmpty duties → cost_of_duties case n duties ≡ 0
empties-cost case n [] all = refl
empties-cost case n (duty ∷ rest) all =
    omega (arith, empty-cost case n duty (all 0 duty refl), empties-cost case (n + 1) rest (λ k d e. all (suc k) d e))

empties-carry : (o : ℕ) (duties : List Duty) → AllEmpty duties → times o (carried duties) ≡ 0
empties-carry o [] all = refl
empties-carry o (duty ∷ rest) all =
    omega (
      arith,
      times-append o (orders_of (partial_of duty)) (carried rest),
      empty-orders o duty (all 0 duty refl),
      empties-carry o rest (λ k d e. all (suc k) d e),
    )

-- the duties of one driver alone
abbrev AllOthers : ℕ → List Duty → Type 0
AllOthers driver duties = (k : ℕ) (other : Duty) → k ≢ driver → slice_get duties k ≡ Some other → other.steps ≡ []

one-cost : (case : Case) (n k m : ℕ) (duties : List Duty) (duty : Duty) → m ≡ n + k → slice_get duties k ≡ Some duty → AllOthers k duties →
    cost_of_duties case n duties ≡ cost_after case m (partial_of duty)
one-cost case n k m [] duty e h all = cc
one-cost case n zero m (first ∷ rest) duty e h all =
    let same : first ≡ duty = cc in
    let at : n ≡ m = omega arith in
    let here : cost_after case n (partial_of first) ≡ cost_after case m (partial_of duty) =
    ap (λ (d : Duty). cost_after case n (partial_of d)) same ∙ ap (λ (x : ℕ). cost_after case x (partial_of duty)) at in
    omega (arith, empties-cost case (n + 1) rest (λ j d g. all (suc j) d (λ z. absurd (omega arith)) g))
one-cost case n (suc k) m (first ∷ rest) duty e h all =
    omega (
      arith,
      empty-cost case n first (all 0 first (λ z. absurd (omega arith)) refl),
      one-cost case (n + 1) k m rest duty (omega arith) h (λ j d n g. all (suc j) d (λ z. n (omega arith)) g),
    )

one-carried : (o k : ℕ) (duties : List Duty) (duty : Duty) → slice_get duties k ≡ Some duty → AllOthers k duties →
    times o (carried duties) ≡ times o (orders_of (partial_of duty))
one-carried o k [] duty h all = cc
one-carried o zero (first ∷ rest) duty h all =
    let same : first ≡ duty = cc in
    let here : times o (orders_of (partial_of first)) ≡ times o (orders_of (partial_of duty)) = ap (λ (d : Duty). times o (orders_of (partial_of d))) same in
    omega (
      arith,
      times-append o (orders_of (partial_of first)) (carried rest),
      empties-carry o rest (λ j d g. all (suc j) d (λ z. absurd (omega arith)) g),
    )
one-carried o (suc k) (first ∷ rest) duty h all =
    omega (
      arith,
      times-append o (orders_of (partial_of first)) (carried rest),
      empty-orders o first (all 0 first (λ z. absurd (omega arith)) refl),
      one-carried o k rest duty h (λ j d n g. all (suc j) d (λ z. n (omega arith)) g),
    )

pub costs_alone : (case : Case) (driver : ℕ) (duty : Duty) (plan : Plan) → IsSingleDutyPlan case driver duty plan →
    cost_of_plan case plan ≡ lone_cost case driver duty
costs_alone case driver duty plan lone =
    let n = length case.week.orders in
    let shared : total_below (λ o. share (price_of case.week) o plan.out) n ≡ worth (price_of case.week) plan.out =
    total-share (price_of case.week) n plan.out (listed-known n plan.out lone.lawful.known) in
    let rest : total_below (λ o. share (price_of case.week) o plan.out) n ≡
    total_below (λ o. cond (serves o (partial_of duty)) 0 (price_of case.week o)) n = total-same _ _ n (λ o l. by_order o l (serves o (partial_of duty)) refl) in
    omega (arith, one-cost case 0 driver driver plan.duties duty (omega arith) lone.given lone.others)
  where
    by_order : (o : ℕ) → o < length case.week.orders → (b : Bool) → serves o (partial_of duty) ≡ b →
        share (price_of case.week) o plan.out ≡ cond (serves o (partial_of duty)) 0 (price_of case.week o)
    by_order o l true e =
        let some : 1 ≤ times o (orders_of (partial_of duty)) = served o (partial_of duty) e in
        let out : times o plan.out ≡ 0 = omega (arith, lone.lawful.once o l, one-carried o driver plan.duties duty lone.given lone.others) in
        rw e (share-none (price_of case.week) o plan.out out)
    by_order o l false e =
        let none : times o (orders_of (partial_of duty)) ≡ 0 = unserved o (partial_of duty) e in
        let out : times o plan.out ≡ 1 = omega (arith, lone.lawful.once o l, one-carried o driver plan.duties duty lone.given lone.others) in
        rw e (share-one (price_of case.week) o plan.out out)
