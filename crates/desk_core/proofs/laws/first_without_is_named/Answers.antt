use Rattle.desk_core.proofs.Gathering.{first_without_is_named as law}
use Rattle.desk_core.proofs.laws.first_without_is_named.Goals as goal

pub returns : goal.returns
returns c = law
