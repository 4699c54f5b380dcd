use Rattle.duty_plan.proofs.JoinedRounds.{joined_is_round}
use Rattle.duty_plan.proofs.laws.shared_rounds_are_rounds.Goals as goal

pub returns : goal.returns
returns c = joined_is_round
