use Rattle.std.proofs.Common.{◌≡◌, length}
use Rattle.cheap_plans.proofs.guessing.duties_of.Given as goal

abbrev pub invariant-loop-guess : goal.invariant-loop-guess
invariant-loop-guess l = length l.duties ≡ l.guess-index
