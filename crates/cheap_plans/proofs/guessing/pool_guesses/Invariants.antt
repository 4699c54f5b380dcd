use Rattle.price_master.specs.Pools.{IsPool}
use Rattle.cheap_plans.proofs.guessing.pool_guesses.Given as goal

abbrev pub invariant-loop-driver : goal.invariant-loop-driver
invariant-loop-driver l = IsPool l.case l.pool
