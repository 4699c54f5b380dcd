use Rattle.std.proofs.Common.{◌≡◌, ◌≤◌, length, vec_capacity}
use Rattle.pricing_pool.proofs.Classes.{AreSorted}
use Rattle.pricing_pool.proofs.twins.classes.Given as goal

abbrev pub invariant-sorting : goal.invariant-sorting
invariant-sorting l = record {
  count : length l.classes.items ≡ l.driver;
  room : length l.case.week.drivers ≤ vec_capacity l.classes;
  sorted : AreSorted l.case l.pairs l.classes.items;
}
