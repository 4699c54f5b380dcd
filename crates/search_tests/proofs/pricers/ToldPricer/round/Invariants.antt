-- The answers of the drivers before the next one.
use Rattle.std.proofs.Common.{◌≡◌, length}
use Rattle.duty_plan.specs.Duties.{EachOf}
use Rattle.duty_plan.specs.Rounds.{IsAnswer}
use Rattle.search_tests.proofs.pricers.ToldPricer.round.Given as goal

abbrev pub invariant-loop-driver : goal.invariant-loop-driver
invariant-loop-driver g l = record {
  count : length l.answers ≡ l.driver;
  each : EachOf (IsAnswer 0 l.case l.pairs l.prices) l.answers;
}
