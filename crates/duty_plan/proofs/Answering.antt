-- What the judge of a plan finds.
use Rattle.std.proofs.Common.{◌≡◌, ℕ, zero, suc, ◌+◌, ◌<◌, ◌≤◌, Bool, true, false, cond, eqb, leb, List, [], ◌∷◌, ◌++◌, length, take, drop, get_or, Option, Some, None, Result, Ok, Err, is_ok, IfOk, IsOk, slice_get, refl, subst, ap, sym, ◌∙◌, arith, ◌↔◌}
use Rattle.std.proofs.lemmas.Bool.{eqb-true, eq-eqb}
use Rattle.std.proofs.lemmas.Bool.Decides.{nat_tests}
use Rattle.std.proofs.lemmas.List.{length-take}
use Rattle.week_book.specs.declared.weeks.Driver.{Driver}
use Rattle.week_book.specs.Weeks.{driver_of, IsDriver}
use Rattle.duty_plan.specs.declared.duties.Duty.{Duty}
use Rattle.duty_plan.specs.declared.plans.Case.{Case}
use Rattle.duty_plan.specs.declared.plans.Plan.{Plan}
use Rattle.duty_plan.specs.declared.faults.DutyFault.{DutyFault}
use Rattle.duty_plan.specs.declared.faults.PlanFault.{PlanFault}
use Rattle.duty_plan.specs.declared.faults.PlanFault.TheVariants.{Duties, Duty as duty_fails}
use Rattle.duty_plan.specs.PartialDuties.{PartialDuty}
use Rattle.duty_plan.specs.Duties.{EachOf, IsCase, IsLawful, IsLawfulPlan, partial_of, open_off_at, capacity_at, fee_or_none, cost_after, cost_of_duties, cost_of_plan, duty_cost_limit, times_placed}
use Rattle.duty_plan.specs.Verdicts.{duty_verdict, after_verdict, duties_fault, plan_answer, plan_verdict, first_twice, first_lost}
use Rattle.duty_plan.specs.DutyChecks.{ServesOnce}
use Rattle.duty_plan.proofs.Lists.{split-at, take-more}
use Rattle.duty_plan.proofs.WeekLimits.{all-slice_get, cheap, early}
use Rattle.duty_plan.proofs.Judging.{ok-lawful, lawful-ok}
use Rattle.duty_plan.proofs.Least.{least-none, none-least}
use Rattle.duty_plan.proofs.Carrying.{served-once}

-- ---- the duties, one driver after another

duties_fault-one : (case : Case) (n : ℕ) (duty : Duty) (rest : List Duty) (answer : Result ℕ DutyFault) → duty_verdict case n duty ≡ answer →
    duties_fault case n (duty ∷ rest) ≡ after_verdict n answer (duties_fault case (n + 1) rest)
duties_fault-one case n duty rest answer e = ap (λ (r : Result ℕ DutyFault). after_verdict n r (duties_fault case (n + 1) rest)) e

pub duties_fault-append : (case : Case) (n m : ℕ) (xs ys : List Duty) → m ≡ n + length xs → duties_fault case n xs ≡ None →
    duties_fault case n (xs ++ ys) ≡ duties_fault case m ys
duties_fault-append case n m [] ys e h = let same : m ≡ n = omega arith in rw same refl
duties_fault-append case n m (duty ∷ xs) ys e h = by_verdict (duty_verdict case n duty) refl (λ t. duties_fault-append case (n + 1) m xs ys (omega arith) t)
  where
    by_verdict : (answer : Result ℕ DutyFault) → duty_verdict case n duty ≡ answer →
        (duties_fault case (n + 1) xs ≡ None → duties_fault case (n + 1) (xs ++ ys) ≡ duties_fault case m ys) →
        duties_fault case n (duty ∷ (xs ++ ys)) ≡ duties_fault case m ys
    by_verdict (Ok cost) v more = duties_fault-one case n duty (xs ++ ys) (Ok cost) v ∙ more (sym (duties_fault-one case n duty xs (Ok cost) v) ∙ h)
    by_verdict (Err fault) v more = let bad : duties_fault case n (duty ∷ xs) ≡ Some (duty_fails n fault) = duties_fault-one case n duty xs (Err fault) v in cc

pub cost_of_duties-append : (case : Case) (n m : ℕ) (xs ys : List Duty) → m ≡ n + length xs →
    cost_of_duties case n (xs ++ ys) ≡ cost_of_duties case n xs + cost_of_duties case m ys
cost_of_duties-append case n m [] ys e = let same : m ≡ n = omega arith in rw same (omega arith)
cost_of_duties-append case n m (duty ∷ xs) ys e = omega (arith, cost_of_duties-append case (n + 1) m xs ys (omega arith))

-- one duty more
pub duties-more : (case : Case) (duties : List Duty) (i : ℕ) (duty d : Duty) (cost : ℕ) → duties_fault case 0 (take i duties) ≡ None →
    duty_verdict case i duty ≡ Ok cost → i < length duties → duty ≡ get_or duties i d → duties_fault case 0 (take (i + 1) duties) ≡ None
duties-more case duties i duty d cost h v l g =
    let here : i ≡ 0 + length (take i duties) = omega (arith, length-take i duties) in
    ap (duties_fault case 0) (take-more duties i duty d l g)
    ∙ (duties_fault-append case 0 i (take i duties) (duty ∷ []) here h ∙ duties_fault-one case i duty [] (Ok cost) v)

pub duties-stop : (case : Case) (duties : List Duty) (i : ℕ) (duty d : Duty) (fault : DutyFault) → duties_fault case 0 (take i duties) ≡ None →
    duty_verdict case i duty ≡ Err fault → i < length duties → duty ≡ get_or duties i d → duties_fault case 0 duties ≡ Some (duty_fails i fault)
duties-stop case duties i duty d fault h v l g =
    let here : i ≡ 0 + length (take i duties) = omega (arith, length-take i duties) in
    ap (duties_fault case 0) (sym (split-at duties i duty d l g))
    ∙ (duties_fault-append case 0 i (take i duties) (duty ∷ drop (suc i) duties) here h ∙ duties_fault-one case i duty (drop (suc i) duties) (Err fault) v)

pub cost-more : (case : Case) (duties : List Duty) (i cents cost : ℕ) (duty d : Duty) → cents ≡ cost_of_duties case 0 (take i duties) →
    cost ≡ cost_after case i (partial_of duty) → i < length duties → duty ≡ get_or duties i d → cents + cost ≡ cost_of_duties case 0 (take (i + 1) duties)
cost-more case duties i cents cost duty d h k l g =
    let here : i ≡ 0 + length (take i duties) = omega (arith, length-take i duties) in
    let more : cost_of_duties case 0 (take (i + 1) duties) ≡ cost_of_duties case 0 (take i duties ++ duty ∷ []) = ap (cost_of_duties case 0) (take-more duties i duty d l g) in
    omega (arith, more, cost_of_duties-append case 0 i (take i duties) (duty ∷ []) here)

-- a lawful duty costs at most so much
pub cost-small : (case : Case) (driver : ℕ) (duty : Duty) → IsCase case → IsLawful case driver duty → cost_after case driver (partial_of duty) ≤ duty_cost_limit
cost-small case driver duty w l = by_partial (partial_of duty) refl
  where
    by_driver : (found : Option Driver) → driver_of case.week driver ≡ found → fee_or_none found ≤ 10000000
    by_driver None e = omega arith
    by_driver (Some lorry) e = (all-slice_get IsDriver case.week.drivers driver lorry w.week.drivers e).fee

    by_partial : (partial : PartialDuty) → partial_of duty ≡ partial → cost_after case driver partial ≤ duty_cost_limit
    by_partial [] e = omega arith
    by_partial (step ∷ before) e =
        let office = rw e at l.partial.office in
        let end = early case.week (open_off_at case driver) (capacity_at case driver) (step ∷ before) office in
        let sum = cheap case.week (open_off_at case driver) (capacity_at case driver) (step ∷ before) w.week office in
        omega (arith, end, sum, by_driver (driver_of case.week driver) refl)

-- so is what a judge answers, who tells lawful duties and their cost
pub limit-answer : (case : Case) (driver : ℕ) (duty : Duty) (answer : Result ℕ DutyFault) → IsCase case → IsOk answer ↔ IsLawful case driver duty →
    IfOk answer (λ cents. cents ≡ cost_after case driver (partial_of duty)) → IfOk answer (λ cents. cents ≤ duty_cost_limit)
limit-answer case driver duty (Ok cents) w l e = omega (arith, e, cost-small case driver duty w (l.0 refl))
limit-answer case driver duty (Err fault) w l e = tt

-- ---- lawful duties

pub each-lawful : (case : Case) (n : ℕ) (duties : List Duty) → duties_fault case n duties ≡ None → (k m : ℕ) (duty : Duty) → m ≡ n + k →
    slice_get duties k ≡ Some duty → IsLawful case m duty
each-lawful case n [] h k m duty e g = cc
each-lawful case n (first ∷ rest) h k m duty e g =
    by_verdict (duty_verdict case n first) refl k e g (λ t j f s. each-lawful case (n + 1) rest t j m duty f s)
  where
    by_verdict : (answer : Result ℕ DutyFault) → duty_verdict case n first ≡ answer → (k : ℕ) → m ≡ n + k → slice_get (first ∷ rest) k ≡ Some duty →
        (duties_fault case (n + 1) rest ≡ None → (j : ℕ) → m ≡ (n + 1) + j → slice_get rest j ≡ Some duty → IsLawful case m duty) → IsLawful case m duty
    by_verdict (Err fault) v k e g more = let bad : duties_fault case n (first ∷ rest) ≡ Some (duty_fails n fault) = duties_fault-one case n first rest (Err fault) v in cc
    by_verdict (Ok cost) v zero e g more =
        let same : n ≡ m = omega arith in
        let it : first ≡ duty = cc in
        let ok : duty_verdict case m duty ≡ Ok cost = rw (← same, ← it) v in
        lawful-ok case m duty (ap is_ok ok)
    by_verdict (Ok cost) v (suc j) e g more = more (sym (duties_fault-one case n first rest (Ok cost) v) ∙ h) j (omega arith) g

pub lawful-each : (case : Case) (n : ℕ) (duties : List Duty) → ((k m : ℕ) (duty : Duty) → m ≡ n + k → slice_get duties k ≡ Some duty → IsLawful case m duty) →
    duties_fault case n duties ≡ None
lawful-each case n [] h = refl
lawful-each case n (duty ∷ rest) h =
    duties_fault-one case n duty rest (Ok (cost_after case n (partial_of duty))) (ok-lawful case n duty (h 0 n duty (omega arith) refl))
    ∙ lawful-each case (n + 1) rest (λ k m d e g. h (suc k) m d (omega arith) g)

pub each-once : (case : Case) (duties : List Duty) → duties_fault case 0 duties ≡ None → EachOf ServesOnce duties
each-once case duties h = λ k duty g order.
    served-once case.week (open_off_at case k) (capacity_at case k) order (partial_of duty) (each-lawful case 0 duties h k k duty (omega arith) g).partial.office

-- ---- the plan

exactly-one : (n : ℕ) → leb 2 n ≡ false → eqb n 0 ≡ false → n ≡ 1
exactly-one n a b = grind (arith, nat_tests)

answer-ok : (fault : Option PlanFault) (twice lost : Option ℕ) (cost : ℕ) → is_ok (plan_answer fault twice lost cost) ≡ true →
    (fault ≡ None) × (twice ≡ None) × (lost ≡ None)
answer-ok (Some f) twice lost cost h = cc
answer-ok None (Some o) lost cost h = cc
answer-ok None None (Some o) cost h = cc
answer-ok None None None cost h = (refl, refl, refl)

answer-cost : (fault : Option PlanFault) (twice lost : Option ℕ) (cost : ℕ) → IfOk (plan_answer fault twice lost cost) (λ cents. cents ≡ cost)
answer-cost (Some f) twice lost cost = tt
answer-cost None (Some o) lost cost = tt
answer-cost None None (Some o) cost = tt
answer-cost None None None cost = refl

pub verdict-lawful : (case : Case) (plan : Plan) → EachOf (λ n order. order < length case.week.orders) plan.out → is_ok (plan_verdict case plan) ≡ true → IsLawfulPlan case plan
verdict-lawful case plan known h = by_count (eqb (length plan.duties) (length case.week.drivers)) refl
  where
    by_count : (b : Bool) → eqb (length plan.duties) (length case.week.drivers) ≡ b → IsLawfulPlan case plan
    by_count false e = let bad : plan_verdict case plan ≡ Err (Duties (length plan.duties)) = rw e refl in cc
    by_count true e =
        let same : plan_verdict case plan ≡ plan_answer (duties_fault case 0 plan.duties) (first_twice case.week plan) (first_lost case.week plan) (cost_of_plan case plan) = rw e refl in
        let parts = answer-ok (duties_fault case 0 plan.duties) (first_twice case.week plan) (first_lost case.week plan) (cost_of_plan case plan) (ap is_ok (sym same) ∙ h) in record {
          duties = eqb-true (length plan.duties) (length case.week.drivers) e;
          lawful = λ k duty g. each-lawful case 0 plan.duties parts.0 k k duty (omega arith) g;
          once = λ order l. exactly-one (times_placed plan order)
              (none-least (λ o. leb 2 (times_placed plan o)) (length case.week.orders) order parts.1 l)
              (none-least (λ o. eqb (times_placed plan o) 0) (length case.week.orders) order parts.2 l);
          known = known;
        }

one-few : (n : ℕ) → n ≡ 1 → leb 2 n ≡ false
one-few n e = rw e refl

one-some : (n : ℕ) → n ≡ 1 → eqb n 0 ≡ false
one-some n e = rw e refl

pub lawful-verdict : (case : Case) (plan : Plan) → IsLawfulPlan case plan → plan_verdict case plan ≡ Ok (cost_of_plan case plan)
lawful-verdict case plan l =
    let count : eqb (length plan.duties) (length case.week.drivers) ≡ true = eq-eqb (length plan.duties) (length case.week.drivers) l.duties in
    let duties : duties_fault case 0 plan.duties ≡ None = lawful-each case 0 plan.duties (λ k m duty e g. let same : k ≡ m = omega arith in subst (λ (x : ℕ). IsLawful case x duty) same (l.lawful k duty g)) in
    let twice : first_twice case.week plan ≡ None = least-none (λ o. leb 2 (times_placed plan o)) (length case.week.orders) (λ o b. one-few (times_placed plan o) (l.once o b)) in
    let lost : first_lost case.week plan ≡ None = least-none (λ o. eqb (times_placed plan o) 0) (length case.week.orders) (λ o b. one-some (times_placed plan o) (l.once o b)) in
    rw (count, duties, twice, lost) refl

-- what a verdict says in the words of the subject
pub record Tells (case : Case) (plan : Plan) (answer : Result ℕ PlanFault) : Type 0 where
  pub verdict : answer ≡ plan_verdict case plan
  pub lawful : IsOk answer ↔ IsLawfulPlan case plan
  pub cost : IfOk answer (λ cents. cents ≡ cost_of_plan case plan)

pub tells : (case : Case) (plan : Plan) (answer : Result ℕ PlanFault) → EachOf (λ n order. order < length case.week.orders) plan.out →
    answer ≡ plan_verdict case plan → Tells case plan answer
tells case plan answer known e = record {
  verdict = e;
  lawful = (λ h. verdict-lawful case plan known (ap is_ok (sym e) ∙ h), λ l. ap is_ok (e ∙ lawful-verdict case plan l));
  cost = rw e (by_count (eqb (length plan.duties) (length case.week.drivers)));
}
  where
    by_count : (b : Bool) → IfOk (cond b (plan_answer (duties_fault case 0 plan.duties) (first_twice case.week plan) (first_lost case.week plan) (cost_of_plan case plan)) (Err (Duties (length plan.duties)))) (λ cents. cents ≡ cost_of_plan case plan)
    by_count true = answer-cost (duties_fault case 0 plan.duties) (first_twice case.week plan) (first_lost case.week plan) (cost_of_plan case plan)
    by_count false = tt
