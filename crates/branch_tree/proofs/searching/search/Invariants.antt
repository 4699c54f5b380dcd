use Rattle.std.proofs.Common.{◌≡◌, ◌-◌, length}
use Rattle.price_master.specs.Pools.{IsPool}
use Rattle.branch_tree.specs.Searching.{IsSearching}
use Rattle.branch_tree.proofs.searching.search.Given as goal

abbrev pub invariant-loop-task : goal.invariant-loop-task
invariant-loop-task g l = record {
  going : IsSearching l.case l.limits l.kept.plan l.kept.cost l.tree l.counts;
  pool : IsPool l.case l.kept.pool;
  chunks : g.P.Pricer.chunks l.pricer ≡ g.P.Pricer.chunks l.fn.pricer;
}

abbrev pub decreases-loop-task : goal.decreases-loop-task
decreases-loop-task g l = l.limits.nodes - length l.tree
