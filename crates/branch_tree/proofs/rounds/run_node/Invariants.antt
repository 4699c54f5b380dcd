use Rattle.std.proofs.Common.{◌≡◌, ◌<◌, ◌≤◌, ◌-◌}
use Rattle.duty_plan.specs.Values.{IsPrices}
use Rattle.price_master.specs.Pools.{IsPool}
use Rattle.branch_tree.specs.Growth.{IsKept}
use Rattle.branch_tree.specs.Leaving.{IsUnderway}
use Rattle.branch_tree.proofs.rounds.run_node.Given as goal

abbrev pub invariant-loop-carried : goal.invariant-loop-carried
invariant-loop-carried g l = record {
  underway : IsUnderway l.task.case.now l.task.limits.now l.start l.k l.kept.cost l.bound l.prices l.now l.carried;
  few : l.k < l.task.limits.now.rounds;
  now_prices : IsPrices l.task.case.now.week l.now;
  kept_prices : IsPrices l.task.case.now.week l.prices;
  keeps : IsKept l.task.case.now l.kept.plan l.kept.cost;
  pool : IsPool l.task.case.now l.kept.pool;
  falls : l.kept.cost ≤ l.fn.kept.cost;
  chunks : g.P.Pricer.chunks l.pricer ≡ g.P.Pricer.chunks l.fn.pricer;
}

abbrev pub decreases-loop-carried : goal.decreases-loop-carried
decreases-loop-carried g l = l.task.limits.now.rounds - l.k
