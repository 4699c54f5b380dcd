use Rattle.hours_rules.proofs.Periods.{forty_five}
use Rattle.hours_rules.proofs.laws.forty_five_ends_a_period.Goals as goal

pub returns : goal.returns
returns c = forty_five
