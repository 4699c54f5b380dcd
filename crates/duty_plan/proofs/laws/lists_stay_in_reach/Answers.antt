use Rattle.duty_plan.proofs.Reaching.{lists_stay_in_reach}
use Rattle.duty_plan.proofs.laws.lists_stay_in_reach.Goals as goal

pub returns : goal.returns
returns c = lists_stay_in_reach
