use Rattle.std.proofs.Common.{◌≡◌, ◌+◌, ◌-◌, ◌*◌, ◌<◌, ◌⊎◌, length}
use Rattle.price_master.specs.Pools.{IsPool}
use Rattle.cheap_plans.specs.Drafts.{IsDraft}
use Rattle.cheap_plans.proofs.turning.again.Given as goal

abbrev pub invariant-loop-quiet : goal.invariant-loop-quiet
invariant-loop-quiet g l = record {
  draft : IsDraft l.case l.draft;
  pool : IsPool l.case l.tries.pool;
  driver : (l.driver < length l.case.week.drivers) ⊎ (length l.case.week.drivers ≡ 0);
  chunks : g.P.Pricer.chunks l.pricer ≡ g.P.Pricer.chunks l.fn.pricer;
}

abbrev pub decreases-loop-quiet : goal.decreases-loop-quiet
decreases-loop-quiet g l = l.tries.left * 20 + (length l.case.week.drivers - l.quiet)
