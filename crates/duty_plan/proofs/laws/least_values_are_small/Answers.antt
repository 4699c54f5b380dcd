use Rattle.duty_plan.proofs.SmallValues.{least_is_small}
use Rattle.duty_plan.proofs.laws.least_values_are_small.Goals as goal

pub returns : goal.returns
returns c = least_is_small
