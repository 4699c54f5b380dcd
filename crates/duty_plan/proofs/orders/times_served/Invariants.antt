use Rattle.std.proofs.Common.{◌≡◌, ◌≤◌, take}
use Rattle.duty_plan.specs.Duties.{times, carried}
use Rattle.duty_plan.proofs.orders.times_served.Given as goal

abbrev pub invariant-loop-duty : goal.invariant-loop-duty
invariant-loop-duty l = record {
  count : l.count ≡ times l.order (carried (take l.duty-index l.duties));
  few : l.count ≤ l.duty-index;
}
