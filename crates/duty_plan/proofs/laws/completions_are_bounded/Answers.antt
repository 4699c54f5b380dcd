use Rattle.duty_plan.proofs.Hopes.{bounds_completions, serves_in_time}
use Rattle.duty_plan.proofs.laws.completions_are_bounded.Goals as goal

pub returns-clause-value : goal.returns-clause-value
returns-clause-value c = bounds_completions

pub returns-clause-window : goal.returns-clause-window
returns-clause-window c = serves_in_time
