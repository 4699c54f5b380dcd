use Rattle.desk_core.proofs.Standing.{published_once as law}
use Rattle.desk_core.proofs.laws.published_once.Goals as goal

pub returns : goal.returns
returns c = law
