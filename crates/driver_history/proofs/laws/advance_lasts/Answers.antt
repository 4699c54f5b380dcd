use Rattle.driver_history.proofs.Appending.{advance-lasts}
use Rattle.driver_history.proofs.laws.advance_lasts.Goals as goal

pub returns : goal.returns
returns c = advance-lasts
