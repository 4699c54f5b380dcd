-- The guesses for the drivers before the next one.
use Rattle.std.proofs.Common.{◌≡◌, length}
use Rattle.std.specs.Prelude.{IfSome}
use Rattle.duty_plan.specs.Duties.{EachOf}
use Rattle.duty_plan.specs.Values.{IsChoice}
use Rattle.search_tests.proofs.pricers.ToldPricer.guess.Given as goal

abbrev pub invariant-loop-driver : goal.invariant-loop-driver
invariant-loop-driver l = record {
  count : length l.guesses ≡ l.driver;
  each : EachOf (λ driver guess. IfSome guess (IsChoice l.case driver l.pairs)) l.guesses;
}
