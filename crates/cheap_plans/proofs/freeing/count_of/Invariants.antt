use Rattle.std.proofs.Common.{◌≤◌}
use Rattle.cheap_plans.proofs.freeing.count_of.Given as goal

abbrev pub invariant-loop-is_true : goal.invariant-loop-is_true
invariant-loop-is_true l = l.count ≤ l.is_true-index
