use Rattle.hours_rules.proofs.Verdicts.{fault_is_first}
use Rattle.hours_rules.proofs.laws.fault_is_first.Goals as goal

pub returns : goal.returns
returns c = fault_is_first
