use Rattle.std.proofs.Common.{◌≡◌, ◌≤◌, take}
use Rattle.duty_plan.specs.Duties.{times}
use Rattle.duty_plan.proofs.orders.times_out.Given as goal

abbrev pub invariant-loop-other : goal.invariant-loop-other
invariant-loop-other l = record {
  count : l.count ≡ times l.order (take l.other-index l.out);
  few : l.count ≤ l.other-index;
}
