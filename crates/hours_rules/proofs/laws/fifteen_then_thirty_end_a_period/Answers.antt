use Rattle.hours_rules.proofs.Periods.{fifteen_thirty}
use Rattle.hours_rules.proofs.laws.fifteen_then_thirty_end_a_period.Goals as goal

pub returns : goal.returns
returns c = fifteen_thirty
