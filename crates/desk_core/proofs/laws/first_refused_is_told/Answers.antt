use Rattle.desk_core.proofs.Gathering.{first_refused_is_told as law}
use Rattle.desk_core.proofs.laws.first_refused_is_told.Goals as goal

pub returns : goal.returns
returns c = law
