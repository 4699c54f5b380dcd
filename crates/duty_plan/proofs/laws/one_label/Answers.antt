use Rattle.duty_plan.proofs.OneLabel.{one_label}
use Rattle.duty_plan.proofs.laws.one_label.Goals as goal

pub returns : goal.returns
returns c = one_label
