use Rattle.duty_plan.proofs.Twins.{twins_are_alike}
use Rattle.duty_plan.proofs.laws.twins_are_alike.Goals as goal

pub returns : goal.returns
returns c = twins_are_alike
