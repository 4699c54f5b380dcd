use Rattle.std.proofs.Common.{◌≡◌, ◌≤◌, ◌*◌, take}
use Rattle.duty_plan.specs.Duties.{worth, price_of}
use Rattle.duty_plan.proofs.orders.price_of_all.Given as goal

abbrev pub invariant-loop-order : goal.invariant-loop-order
invariant-loop-order l = record {
  worth_so_far : l.cents ≡ worth (price_of l.week) (take l.order-index l.out);
  bound : l.cents ≤ l.order-index * 100000000;
}
