use Rattle.driver_history.proofs.Lasting.{rows-last}
use Rattle.driver_history.proofs.laws.rows_last.Goals as goal

pub returns : goal.returns
returns c = rows-last
