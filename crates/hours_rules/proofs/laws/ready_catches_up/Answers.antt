use Rattle.hours_rules.proofs.Waiting.{ready_catches_up}
use Rattle.hours_rules.proofs.laws.ready_catches_up.Goals as goal

pub returns : goal.returns
returns c = ready_catches_up
