use Rattle.hours_rules.proofs.Periods.{thirty_fifteen}
use Rattle.hours_rules.proofs.laws.thirty_then_fifteen_end_none.Goals as goal

pub returns : goal.returns
returns c = thirty_fifteen
