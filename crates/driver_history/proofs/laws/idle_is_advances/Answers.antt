use Rattle.driver_history.proofs.Idling.{idle-advances}
use Rattle.driver_history.proofs.laws.idle_is_advances.Goals as goal

pub returns : goal.returns
returns c = idle-advances
