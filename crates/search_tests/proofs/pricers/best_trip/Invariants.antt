-- The best so far may be given to the driver.
use Rattle.std.specs.Prelude.{IfSome}
use Rattle.duty_plan.specs.Values.{IsChoice}
use Rattle.search_tests.proofs.pricers.best_trip.Given as goal

abbrev pub invariant-loop-order : goal.invariant-loop-order
invariant-loop-order l = IfSome l.best (IsChoice l.case l.driver l.pairs)
