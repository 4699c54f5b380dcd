-- The orders before the next one, of which none is lost.
use Rattle.std.proofs.Common.{◌≡◌, ℕ, ◌<◌, ◌≤◌, ◌*◌}
use Rattle.duty_plan.specs.Sums.{total_below}
use Rattle.duty_label.specs.Pruning.{IsLost, may_bring}
use Rattle.duty_label.proofs.walks.Walks.may_bring_all.Given as goal

abbrev pub invariant-loop-order : goal.invariant-loop-order
invariant-loop-order l = record {
  exact : l.cents ≡ total_below (may_bring l.week l.self l.driver l.pairs l.prices l.label) l.order;
  few : l.cents ≤ 100000000 * l.order;
  kept : (order : ℕ) → order < l.order → IsLost l.week l.self l.driver l.pairs l.label order → ⊥;
}
