use Rattle.std.proofs.Common.{◌≡◌, ◌≤◌, ◌*◌}
use Rattle.duty_plan.specs.Sums.{total_below}
use Rattle.duty_plan.specs.Values.{lagrangian_term}
use Rattle.price_master.proofs.valuing.lagrangian_terms.Given as goal

abbrev pub invariant-loop-order : goal.invariant-loop-order
invariant-loop-order l = record {
  so_far : l.cents ≡ total_below (lagrangian_term l.week l.pairs l.prices) l.order;
  bound : l.cents ≤ l.order * 100000000;
}
