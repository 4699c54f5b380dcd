use Rattle.std.proofs.Common.{subst, List}
use Rattle.duty_plan.specs.declared.duties.Duty.{Duty}
use Rattle.price_master.specs.Completing.{IsRest}
use Rattle.branch_tree.proofs.TakenPlans.{taken-decided}
use Rattle.branch_tree.proofs.taking.offer_all.Goals as goal

pub returns-clause-taken : goal.returns-clause-taken
returns-clause-taken c = λ m pairs prices round decided once.
    let rests : IsRest c.args.case.now c.in_ok-duties.duties c.in_ok-out.out =
    subst (λ (x : List Duty). IsRest c.args.case.now x c.in_ok-out.out) c.as_slice.ensures c.in_ok-out.ensures in
    taken-decided m c.args.case.now pairs prices c.args.answers.now c.in_ok-duties.duties c.in_ok-out.out c.offer.new.kept.cost round c.requires.whole c.in_ok-duties.ensures rests
    c.offer.ensures.taken decided once
