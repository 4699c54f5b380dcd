use Rattle.std.proofs.Common.{◌≡◌, length}
use Rattle.cheap_plans.proofs.valuing.carriers.Given as goal

abbrev pub invariant-loop-order : goal.invariant-loop-order
invariant-loop-order l = length l.counts ≡ l.order
