use Rattle.std.proofs.Common.{◌≤◌}
use Rattle.cheap_plans.proofs.alike.kinds.Given as goal

abbrev pub invariant-loop-driver : goal.invariant-loop-driver
invariant-loop-driver l = l.kinds ≤ l.driver
