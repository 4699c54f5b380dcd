use Rattle.desk_core.proofs.Gathering.{each_has_its_history as law}
use Rattle.desk_core.proofs.laws.each_has_its_history.Goals as goal

pub returns : goal.returns
returns c = law
