use Rattle.std.proofs.Common.{◌≡◌, length}
use Rattle.std.specs.Prelude.{IfSome}
use Rattle.duty_plan.specs.Duties.{EachOf}
use Rattle.duty_plan.specs.Values.{IsChoice}
use Rattle.duty_pricing.specs.Finding.{IsEmpty}
use Rattle.pricing_pool.proofs.guesses.guess_all.Given as goal

abbrev pub invariant-guessing : goal.invariant-guessing
invariant-guessing l = record {
  count : length l.guesses ≡ l.driver;
  empty : IsEmpty l.scratch;
  each : EachOf (λ driver guess. IfSome guess (IsChoice l.case driver l.pairs)) l.guesses;
}
