use Rattle.std.proofs.Common.{◌≡◌, ◌≤◌, ◌-◌}
use Rattle.duty_plan.specs.Trees.{IsPlanAtCost}
use Rattle.price_master.specs.Pools.{IsPool}
use Rattle.cheap_plans.proofs.improving.offer_passes.Given as goal

abbrev pub invariant-loop-passes : goal.invariant-loop-passes
invariant-loop-passes g l = record {
  pool : IsPool l.case l.tries.pool;
  lawful : IsPlanAtCost l.case l.incumbent.plan l.incumbent.cost;
  cost : l.incumbent.cost ≤ l.fn.incumbent.cost;
  few : l.passes ≤ 64;
  chunks : g.P.Pricer.chunks l.pricer ≡ g.P.Pricer.chunks l.fn.pricer;
}

abbrev pub decreases-loop-passes : goal.decreases-loop-passes
decreases-loop-passes g l = 64 - l.passes
