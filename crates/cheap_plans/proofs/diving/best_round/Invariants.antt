use Rattle.std.proofs.Common.{◌≡◌, ◌-◌, ◌<◌, ◌≤◌, ◌⊎◌}
use Rattle.duty_plan.specs.Values.{IsPrices}
use Rattle.price_master.specs.Pools.{IsPool}
use Rattle.cheap_plans.proofs.diving.best_round.Given as goal

abbrev pub invariant-loop-k : goal.invariant-loop-k
invariant-loop-k g l = record {
  pool : IsPool l.case l.tries.pool;
  now : IsPrices l.case.week l.now;
  best : IsPrices l.case.week l.best.prices;
  rounds : l.k ≤ l.rounds.count;
  falls : (l.tries.left < l.fn.tries.left) ⊎ ((l.k ≡ 0) × (l.tries.left ≡ l.fn.tries.left));
  chunks : g.P.Pricer.chunks l.pricer ≡ g.P.Pricer.chunks l.fn.pricer;
}

abbrev pub decreases-loop-k : goal.decreases-loop-k
decreases-loop-k g l = l.rounds.count - l.k
