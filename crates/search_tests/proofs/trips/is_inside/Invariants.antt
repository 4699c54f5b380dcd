-- The orders before the next one.
use Rattle.std.proofs.Common.{◌≡◌, ℕ, ◌<◌, true, false}
use Rattle.duty_plan.specs.declared.deciding.Pair.TheVariants.{Forced, Barred}
use Rattle.duty_plan.specs.PartialDuties.{serves}
use Rattle.duty_plan.specs.Duties.{partial_of}
use Rattle.duty_plan.specs.Values.{pair_at}
use Rattle.search_tests.proofs.trips.is_inside.Given as goal

abbrev pub invariant-loop-order : goal.invariant-loop-order
invariant-loop-order l = record {
  forced : (order : ℕ) → order < l.order → pair_at l.pairs l.driver order ≡ Forced → serves order (partial_of l.duty) ≡ true;
  barred : (order : ℕ) → order < l.order → pair_at l.pairs l.driver order ≡ Barred → serves order (partial_of l.duty) ≡ false;
}
