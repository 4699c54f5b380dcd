use Rattle.std.proofs.Common.{◌≡◌, length}
use Rattle.cheap_plans.proofs.freeing.candidates.Given as goal

abbrev pub invariant-loop-duty : goal.invariant-loop-duty
invariant-loop-duty l = length l.may ≡ l.duty-index
