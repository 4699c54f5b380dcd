-- What is kept so far is a pool of the case.
use Rattle.price_master.specs.Pools.{IsPool}
use Rattle.pool_tests.proofs.choosing.pool_of.Given as goal

abbrev pub invariant-loop-trip : goal.invariant-loop-trip
invariant-loop-trip l = IsPool l.case l.pool
