use Rattle.std.proofs.Common.{◌≤◌, ◌*◌}
use Rattle.cheap_plans.proofs.valuing.worth.Given as goal

abbrev pub invariant-loop-order : goal.invariant-loop-order
invariant-loop-order l = l.worth ≤ l.order * 100000000
