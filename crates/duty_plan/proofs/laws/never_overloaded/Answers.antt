use Rattle.duty_plan.proofs.Places.{never_overloaded}
use Rattle.duty_plan.proofs.laws.never_overloaded.Goals as goal

pub returns : goal.returns
returns c = never_overloaded
