-- The orders before the next one.
use Rattle.std.proofs.Common.{ℕ, ◌<◌, reverse}
use Rattle.duty_beam.specs.Finding.{KeepsPair}
use Rattle.duty_beam.proofs.confirming.is_inside.Given as goal

abbrev pub invariant-loop-order : goal.invariant-loop-order
invariant-loop-order l = (order : ℕ) → order < l.order → KeepsPair l.pairs l.driver (reverse l.steps) order
