use Rattle.std.proofs.Common.{◌≤◌, ◌*◌}
use Rattle.cheap_plans.proofs.valuing.free_worth.Given as goal

abbrev pub invariant-loop-order : goal.invariant-loop-order
invariant-loop-order l = l.cents ≤ l.order * 100000000
