-- The verdict on a plan, one test after another.
use Rattle.std.proofs.Common.{◌≡◌, ℕ, ◌<◌, ◌≤◌, false, leb, length, Some, None, Ok, Err, refl, arith}
use Rattle.std.proofs.lemmas.Bool.{eq-eqb}
use Rattle.std.proofs.lemmas.Bool.Decides.{nat_tests}
use Rattle.week_book.specs.declared.weeks.Week.{Week}
use Rattle.duty_plan.specs.declared.plans.Case.{Case}
use Rattle.duty_plan.specs.declared.plans.Plan.{Plan}
use Rattle.duty_plan.specs.declared.faults.PlanFault.{PlanFault}
use Rattle.duty_plan.specs.declared.faults.PlanFault.TheVariants.{Twice as in_two_places, Lost}
use Rattle.duty_plan.specs.Duties.{EachOf, cost_of_plan, times_placed, times}
use Rattle.duty_plan.specs.Verdicts.{duties_fault, plan_verdict, first_twice, first_lost}
use Rattle.duty_plan.proofs.Least.{none-least}
use Rattle.duty_plan.proofs.Carrying.{few-out}

pub verdict-duties : (case : Case) (plan : Plan) (found : PlanFault) → length plan.duties ≡ length case.week.drivers → duties_fault case 0 plan.duties ≡ Some found →
    plan_verdict case plan ≡ Err found
verdict-duties case plan found n h = rw (eq-eqb (length plan.duties) (length case.week.drivers) n, h) refl

pub verdict-twice : (case : Case) (plan : Plan) (order : ℕ) → length plan.duties ≡ length case.week.drivers → duties_fault case 0 plan.duties ≡ None →
    first_twice case.week plan ≡ Some order → plan_verdict case plan ≡ Err (in_two_places order)
verdict-twice case plan order n h t = rw (eq-eqb (length plan.duties) (length case.week.drivers) n, h, t) refl

pub verdict-lost : (case : Case) (plan : Plan) (order : ℕ) → length plan.duties ≡ length case.week.drivers → duties_fault case 0 plan.duties ≡ None →
    first_twice case.week plan ≡ None → first_lost case.week plan ≡ Some order → plan_verdict case plan ≡ Err (Lost order)
verdict-lost case plan order n h t o = rw (eq-eqb (length plan.duties) (length case.week.drivers) n, h, t, o) refl

pub verdict-none : (case : Case) (plan : Plan) (cents : ℕ) → length plan.duties ≡ length case.week.drivers → duties_fault case 0 plan.duties ≡ None →
    first_twice case.week plan ≡ None → first_lost case.week plan ≡ None → cents ≡ cost_of_plan case plan → plan_verdict case plan ≡ Ok cents
verdict-none case plan cents n h t o c = rw (eq-eqb (length plan.duties) (length case.week.drivers) n, h, t, o, c) refl

-- orders that are in no two places are given away at most once each
pub few-given : (week : Week) (plan : Plan) → EachOf (λ n order. order < length week.orders) plan.out → first_twice week plan ≡ None →
    length plan.out ≤ length week.orders
few-given week plan known h = few-out (length week.orders) plan.out known (λ o l. at_most_one o (none-least (λ x. leb 2 (times_placed plan x)) (length week.orders) o h l))
  where
    at_most_one : (o : ℕ) → leb 2 (times_placed plan o) ≡ false → times o plan.out ≤ 1
    at_most_one o t = let below : times_placed plan o < 2 = grind (arith, nat_tests) in omega arith
