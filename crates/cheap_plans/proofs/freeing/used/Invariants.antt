use Rattle.std.proofs.Common.{◌≤◌}
use Rattle.cheap_plans.proofs.freeing.used.Given as goal

abbrev pub invariant-loop-duty : goal.invariant-loop-duty
invariant-loop-duty l = l.count ≤ l.duty-index
