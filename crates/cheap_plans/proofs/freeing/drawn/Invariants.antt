use Rattle.std.proofs.Common.{◌≡◌, length}
use Rattle.cheap_plans.proofs.freeing.drawn.Given as goal

abbrev pub invariant-loop-is_candidate : goal.invariant-loop-is_candidate
invariant-loop-is_candidate l = length l.freed ≡ l.is_candidate-index
