use Rattle.std.proofs.Common.{◌≡◌, ℕ, ◌<◌, Some, slice_get}
use Rattle.price_master.specs.declared.pooling.Pooled.{Pooled}
use Rattle.price_master.proofs.pooling.holds.Given as goal

abbrev pub invariant-loop-entry : goal.invariant-loop-entry
invariant-loop-entry l = (k : ℕ) (entry : Pooled) → k < l.entry-index → slice_get l.pooled k ≡ Some entry → entry.duty ≡ l.duty → ⊥
