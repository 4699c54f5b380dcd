use Rattle.std.proofs.Common.{◌≡◌, length}
use Rattle.cheap_plans.proofs.freeing.kept_duties.Given as goal

abbrev pub invariant-loop-driver : goal.invariant-loop-driver
invariant-loop-driver l = length l.kept ≡ l.driver
