use Rattle.std.proofs.Common.{arith}
use Rattle.price_master.proofs.Picks.{bids-below, bids-seen, cut-plan, least-pooled, plan-of}
use Rattle.price_master.proofs.Serving.{sensible}
use Rattle.price_master.proofs.picking.pick.Goals as goal

pub best_choice-requires-clause-homes : goal.best_choice-requires-clause-homes
best_choice-requires-clause-homes c = λ driver of_driver at.
    let are_bids = bids-seen c.args.case.now c.args.pool.now c.in_ok-bids.bids c.as_slice.result.now c.in_ok-bids.ensures c.as_slice.ensures in
    let its = bids-below c.args.case.now c.args.pool.now c.as_slice.result.now driver of_driver are_bids at in
    (are_bids.each driver its.0 of_driver its.1 at).has_home

pub best_choice-requires-clause-bids : goal.best_choice-requires-clause-bids
best_choice-requires-clause-bids c =
    let are_bids = bids-seen c.args.case.now c.args.pool.now c.in_ok-bids.bids c.as_slice.result.now c.in_ok-bids.ensures c.as_slice.ensures in
    sensible c.args.case.now c.args.pool.now c.as_slice.result.now c.requires.pool are_bids

pub best_choice-requires-clause-drivers : goal.best_choice-requires-clause-drivers
best_choice-requires-clause-drivers c =
    let are_bids = bids-seen c.args.case.now c.args.pool.now c.in_ok-bids.bids c.as_slice.result.now c.in_ok-bids.ensures c.as_slice.ensures in
    omega (arith, are_bids.drivers, c.requires.pool.drivers, c.requires.case.week.few.1)

pub unreachable-requires : goal.unreachable-requires
unreachable-requires c =
    let are_bids = bids-seen c.args.case.now c.args.pool.now c.in_ok-bids.bids c.as_slice.result.now c.in_ok-bids.ensures c.as_slice.ensures in
    let plan = plan-of c.args.case.now c.args.pool.now c.as_slice.result.now c.in_ok-found.found.places c.in_ok-plan.plan c.in_ok-found.found.saving c.requires.pool are_bids
    c.in_ok-found.ensures.found c.in_ok-plan.ensures.duties c.in_ok-plan.ensures.rest in
    let wrong = c.in-Err.ensures.lawful.1 plan.pooled.lawful in cc

pub returns-then-found : goal.returns-then-found
returns-then-found c =
    let are_bids = bids-seen c.args.case.now c.args.pool.now c.in_ok-bids.bids c.as_slice.result.now c.in_ok-bids.ensures c.as_slice.ensures in
    let plan = plan-of c.args.case.now c.args.pool.now c.as_slice.result.now c.in_ok-found.found.places c.in_ok-plan.plan c.in_ok-found.found.saving c.requires.pool are_bids
    c.in_ok-found.ensures.found c.in_ok-plan.ensures.duties c.in_ok-plan.ensures.rest in
    cut-plan c.args.case.now c.args.pool.now c.as_slice.result.now c.in_ok-plan.plan c.in_ok-found.found.saving c.in-Ok.cost c.requires.pool are_bids plan c.in-Ok.ensures.cost
    c.in_ok-found.ensures.beats (c.in_ok-found.ensures.long c.if-found.true)

pub returns : goal.returns
returns c =
    let are_bids = bids-seen c.args.case.now c.args.pool.now c.in_ok-bids.bids c.as_slice.result.now c.in_ok-bids.ensures c.as_slice.ensures in
    let plan = plan-of c.args.case.now c.args.pool.now c.as_slice.result.now c.in_ok-found.found.places c.in_ok-plan.plan c.in_ok-found.found.saving c.requires.pool are_bids
    c.in_ok-found.ensures.found c.in_ok-plan.ensures.duties c.in_ok-plan.ensures.rest in
    least-pooled c.args.case.now c.args.pool.now c.as_slice.result.now c.in_ok-plan.plan c.in_ok-found.found.saving c.in-Ok.cost c.requires.pool are_bids plan c.in-Ok.ensures.cost
    (λ more can. c.in_ok-found.ensures.best c.if-found.false more can)
