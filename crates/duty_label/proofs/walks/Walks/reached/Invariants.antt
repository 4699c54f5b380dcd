-- The orders before the next one.
use Rattle.std.proofs.Common.{◌≡◌}
use Rattle.duty_plan.specs.Labels.{bits_below}
use Rattle.duty_label.specs.Walks.{can_reach}
use Rattle.duty_label.specs.Pruning.{minutes_between}
use Rattle.duty_label.proofs.walks.Walks.reached.Given as goal

abbrev pub invariant-loop-order : goal.invariant-loop-order
invariant-loop-order l = l.bits ≡ bits_below (can_reach l.week (minutes_between l.self) l.at l.place) l.order
