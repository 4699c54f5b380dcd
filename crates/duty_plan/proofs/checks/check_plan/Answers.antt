use Rattle.std.proofs.Common.{◌≡◌, ◌+◌, ◌∙◌, sym, ap, arith, length, None, Ok, Err}
use Rattle.duty_plan.specs.declared.faults.PlanFault.TheVariants.{Twice, Lost}
use Rattle.duty_plan.specs.Duties.{price_of, worth, cost_of_plan}
use Rattle.duty_plan.specs.Verdicts.{duties_fault}
use Rattle.duty_plan.proofs.Answering.{tells, each-once}
use Rattle.duty_plan.proofs.PlanVerdicts.{few-given, verdict-duties, verdict-twice, verdict-lost, verdict-none}
use Rattle.duty_plan.proofs.checks.check_plan.Goals as goal

pub returns-in-Err-clause-lawful : goal.returns-in-Err-clause-lawful
returns-in-Err-clause-lawful c =
    let n : length c.args.plan.now.duties ≡ length c.args.case.now.week.drivers = let same = ap length c.as_slice-duties.ensures in omega (arith, same) in
    (tells c.args.case.now c.args.plan.now (Err c.in-Err.fault) c.requires.out
    (sym (verdict-duties c.args.case.now c.args.plan.now c.in-Err.fault n (rw c.as_slice-duties.ensures at c.in-Err.ensures)))).lawful

pub twice-requires-clause-once : goal.twice-requires-clause-once
twice-requires-clause-once c =
    let h : duties_fault c.args.case.now 0 c.args.plan.now.duties ≡ None = rw c.as_slice-duties.ensures at c.in-Ok.ensures.0 in
    each-once c.args.case.now c.args.plan.now.duties h

pub returns-in-Some-clause-lawful : goal.returns-in-Some-clause-lawful
returns-in-Some-clause-lawful c =
    let n : length c.args.plan.now.duties ≡ length c.args.case.now.week.drivers = let same = ap length c.as_slice-duties.ensures in omega (arith, same) in
    let h : duties_fault c.args.case.now 0 c.args.plan.now.duties ≡ None = rw c.as_slice-duties.ensures at c.in-Ok.ensures.0 in
    (tells c.args.case.now c.args.plan.now (Err (Twice c.in-Some.order)) c.requires.out
    (sym (verdict-twice c.args.case.now c.args.plan.now c.in-Some.order n h (sym c.twice.ensures ∙ c.in-Some.is)))).lawful

pub lost-requires-clause-once : goal.lost-requires-clause-once
lost-requires-clause-once c =
    let h : duties_fault c.args.case.now 0 c.args.plan.now.duties ≡ None = rw c.as_slice-duties.ensures at c.in-Ok.ensures.0 in
    each-once c.args.case.now c.args.plan.now.duties h

pub returns-in-Some-lost-clause-lawful : goal.returns-in-Some-lost-clause-lawful
returns-in-Some-lost-clause-lawful c =
    let n : length c.args.plan.now.duties ≡ length c.args.case.now.week.drivers = let same = ap length c.as_slice-duties.ensures in omega (arith, same) in
    let h : duties_fault c.args.case.now 0 c.args.plan.now.duties ≡ None = rw c.as_slice-duties.ensures at c.in-Ok.ensures.0 in
    (tells c.args.case.now c.args.plan.now (Err (Lost c.in-Some-lost.order)) c.requires.out
    (sym (verdict-lost c.args.case.now c.args.plan.now c.in-Some-lost.order n h (sym c.twice.ensures ∙ c.in_default.is) (sym c.lost.ensures ∙ c.in-Some-lost.is)))).lawful

pub price_of_all-requires-clause-few : goal.price_of_all-requires-clause-few
price_of_all-requires-clause-few c =
    let few = few-given c.args.case.now.week c.args.plan.now c.requires.out (sym c.twice.ensures ∙ c.in_default.is) in
    let same = ap length c.as_slice.ensures in
    omega (arith, few, same, c.requires.case.week.few.2)

pub returns : goal.returns
returns c =
    let n : length c.args.plan.now.duties ≡ length c.args.case.now.week.drivers = let same = ap length c.as_slice-duties.ensures in omega (arith, same) in
    let h : duties_fault c.args.case.now 0 c.args.plan.now.duties ≡ None = rw c.as_slice-duties.ensures at c.in-Ok.ensures.0 in
    let price = c.price_of_all.ensures.worth ∙ ap (worth (price_of c.args.case.now.week)) c.as_slice.ensures in
    let served = rw c.as_slice-duties.ensures at c.in-Ok.ensures.1 in
    let cents : c.in-Ok.cents + c.price_of_all.result ≡ cost_of_plan c.args.case.now c.args.plan.now = omega (arith, price, served) in
    let says = tells c.args.case.now c.args.plan.now (Ok (c.in-Ok.cents + c.price_of_all.result)) c.requires.out
    (sym (verdict-none c.args.case.now c.args.plan.now (c.in-Ok.cents + c.price_of_all.result) n h (sym c.twice.ensures ∙ c.in_default.is)
    (sym c.lost.ensures ∙ c.in_default-lost.is) cents)) in
    record {
      verdict = says.verdict;
      lawful = says.lawful;
      cost = says.cost;
      limit = omega (arith, c.in-Ok.ensures.2, n, ap length c.as_slice-duties.ensures, c.requires.case.week.few.1, c.price_of_all.ensures.bound, c.requires.case.week.few.2);
    }
