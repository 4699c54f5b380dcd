use Rattle.std.proofs.Common.{◌≡◌, length}
use Rattle.cheap_plans.proofs.drafts.freed_pairs.Given as goal

abbrev pub invariant-loop-cell : goal.invariant-loop-cell
invariant-loop-cell l = length l.cells ≡ l.cell
