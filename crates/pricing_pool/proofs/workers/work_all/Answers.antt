use Rattle.std.proofs.Common.{◌<◌, length, get_or, arith, subst}
use Rattle.duty_plan.proofs.Lists.{slice_get-lt}
use Rattle.pricing_pool.specs.Working.{HasWorked}
use Rattle.pricing_pool.proofs.Ending.{ended-at}
use Rattle.pricing_pool.proofs.workers.work_all.Goals as goal

pub returns-clause-worked : goal.returns-clause-worked
returns-clause-worked g c n x at =
    let known : n < length c.args.workers.now = omega (arith, slice_get-lt c.for_each_mut.new.s n x at, c.for_each_mut.auto.s) in
    let call = (c.for_each_mut.ensures n x known).1 in
    let by_call : HasWorked c.args.asked.now (call.argument).now (call.after_call).now = call.call in
    ended-at c.args.asked.now c.args.workers.now c.for_each_mut.new.s n x known at
    (subst (HasWorked c.args.asked.now (get_or c.args.workers.now n x)) call.left
    (subst (λ w. HasWorked c.args.asked.now w (call.after_call).now) call.argument_is by_call))
