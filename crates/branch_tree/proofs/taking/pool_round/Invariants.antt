use Rattle.price_master.specs.Pools.{IsPool}
use Rattle.branch_tree.proofs.PooledRounds.{ArePooledSoFar}
use Rattle.branch_tree.proofs.taking.pool_round.Given as goal

abbrev pub invariant-loop-driver : goal.invariant-loop-driver
invariant-loop-driver l = record { pool : IsPool l.case l.pool; pooled : ArePooledSoFar l.pool l.answers l.driver }
