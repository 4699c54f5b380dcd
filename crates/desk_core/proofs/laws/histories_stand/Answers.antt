use Rattle.desk_core.proofs.Standing.{histories_stand as law}
use Rattle.desk_core.proofs.laws.histories_stand.Goals as goal

pub returns : goal.returns
returns c = law
