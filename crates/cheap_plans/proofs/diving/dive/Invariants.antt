use Rattle.std.proofs.Common.{◌≡◌}
use Rattle.duty_plan.specs.Values.{IsPrices}
use Rattle.price_master.specs.Pools.{IsPool}
use Rattle.cheap_plans.specs.Drafts.{IsDraft}
use Rattle.cheap_plans.proofs.diving.dive.Given as goal

abbrev pub invariant-loop-tries : goal.invariant-loop-tries
invariant-loop-tries g l = record {
  draft : IsDraft l.case l.draft;
  pool : IsPool l.case l.tries.pool;
  now : IsPrices l.case.week l.now;
  chunks : g.P.Pricer.chunks l.pricer ≡ g.P.Pricer.chunks l.fn.pricer;
}

abbrev pub decreases-loop-tries : goal.decreases-loop-tries
decreases-loop-tries g l = l.tries.left
