-- The forced orders so far.
use Rattle.std.proofs.Common.{◌≡◌, ℕ}
use Rattle.duty_plan.specs.Labels.{bits_below, is_forced}
use Rattle.duty_plan.specs.Values.{pair_at}
use Rattle.duty_pricing.proofs.forcing.forced.Given as goal

abbrev pub invariant-loop-order : goal.invariant-loop-order
invariant-loop-order l = l.bits ≡ bits_below (λ (order : ℕ). is_forced (pair_at l.pairs l.driver order)) l.order
