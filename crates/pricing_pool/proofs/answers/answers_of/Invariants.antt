use Rattle.std.proofs.Common.{◌≡◌, length}
use Rattle.duty_plan.specs.Duties.{EachOf}
use Rattle.pricing_pool.specs.Working.{HasAnswerOfClass}
use Rattle.pricing_pool.proofs.answers.answers_of.Given as goal

abbrev pub invariant-copying : goal.invariant-copying
invariant-copying l = record {
  count : length l.answers ≡ l.number;
  each : EachOf (HasAnswerOfClass l.workers) l.answers;
}
