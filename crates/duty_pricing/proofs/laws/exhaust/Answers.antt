use Rattle.duty_pricing.proofs.Exhausting.{exhausts, exhausts_duties}
use Rattle.duty_pricing.proofs.laws.exhaust.Goals as goal

pub returns-clause-partials : goal.returns-clause-partials
returns-clause-partials c = exhausts

pub returns-clause-duties : goal.returns-clause-duties
returns-clause-duties c = exhausts_duties
