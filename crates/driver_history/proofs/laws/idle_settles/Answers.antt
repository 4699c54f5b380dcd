use Rattle.driver_history.proofs.Idling.{idle-settles}
use Rattle.driver_history.proofs.laws.idle_settles.Goals as goal

pub returns : goal.returns
returns c = idle-settles
