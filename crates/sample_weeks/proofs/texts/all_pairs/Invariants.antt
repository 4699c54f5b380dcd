-- As many cells as were counted.
use Rattle.std.proofs.Common.{◌≡◌, length}
use Rattle.sample_weeks.proofs.texts.all_pairs.Given as goal

abbrev pub invariant-loop-cell : goal.invariant-loop-cell
invariant-loop-cell l = length l.cells ≡ l._cell
