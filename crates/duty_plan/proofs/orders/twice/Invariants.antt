use Rattle.std.proofs.Common.{◌≡◌, None, nat_le}
use Rattle.duty_plan.specs.Duties.{times_placed}
use Rattle.duty_plan.specs.Verdicts.{least_below}
use Rattle.duty_plan.proofs.orders.twice.Given as goal

abbrev pub invariant-loop-order : goal.invariant-loop-order
invariant-loop-order l = least_below (λ order. nat_le 2 (times_placed l.plan order)) l.order ≡ None
