use Rattle.std.proofs.Common.{◌≡◌, ◌==◌, None}
use Rattle.duty_plan.specs.Duties.{times_placed}
use Rattle.duty_plan.specs.Verdicts.{least_below}
use Rattle.duty_plan.proofs.orders.lost.Given as goal

abbrev pub invariant-loop-order : goal.invariant-loop-order
invariant-loop-order l = least_below (λ order. times_placed l.plan order == 0) l.order ≡ None
