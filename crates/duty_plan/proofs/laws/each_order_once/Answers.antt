use Rattle.duty_plan.proofs.Places.{each_order}
use Rattle.duty_plan.proofs.laws.each_order_once.Goals as goal

pub returns : goal.returns
returns c = each_order
