use Rattle.std.proofs.Common.{◌≡◌, length}
use Rattle.duty_plan.specs.Duties.{EachOf}
use Rattle.duty_plan.specs.Rounds.{IsAnswer}
use Rattle.pricing_pool.proofs.turns.TurnPricerPricer.round.Given as goal

abbrev pub invariant-pricing : goal.invariant-pricing
invariant-pricing g l = record {
  count : length l.answers ≡ l.driver;
  chunks : l.self ≡ l.fn.self;
  each : EachOf (IsAnswer l.fn.self l.case l.pairs l.prices) l.answers;
}
