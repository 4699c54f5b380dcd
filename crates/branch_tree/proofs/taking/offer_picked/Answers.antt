use Rattle.std.proofs.Common.{arith}
use Rattle.branch_tree.proofs.TakenPlans.{picked-beats}
use Rattle.branch_tree.proofs.taking.offer_picked.Goals as goal

pub returns-clause-beats : goal.returns-clause-beats
returns-clause-beats c = λ driver duty pooled plan lone.
    let beats = picked-beats c.args.case.now c.args.kept.now.pool c.in_ok-plan.field-0 c.in-Least.plan c.in_ok-plan.ensures c.in-Least.is in
    omega (arith, c.offer.ensures.taken beats.0, beats.1 driver duty pooled plan lone)
