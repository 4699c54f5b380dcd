use Rattle.hours_rules.proofs.Waiting.{last_keeps_limits}
use Rattle.hours_rules.proofs.laws.last_keeps_limits.Goals as goal

pub returns : goal.returns
returns c = last_keeps_limits
