use Rattle.std.proofs.Common.{◌≡◌, length}
use Rattle.cheap_plans.proofs.drafts.alone.Given as goal

abbrev pub invariant-loop-other : goal.invariant-loop-other
invariant-loop-other l = length l.freed ≡ l.other
