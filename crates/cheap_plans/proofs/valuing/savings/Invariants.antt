use Rattle.std.proofs.Common.{◌≤◌, ◌*◌}
use Rattle.cheap_plans.proofs.valuing.savings.Given as goal

abbrev pub invariant-loop-driver : goal.invariant-loop-driver
invariant-loop-driver l = l.cents ≤ l.driver * 12800000000
