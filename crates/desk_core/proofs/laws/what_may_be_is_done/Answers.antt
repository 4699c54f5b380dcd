use Rattle.desk_core.proofs.Completing.{what_may_be_is_done as law}
use Rattle.desk_core.proofs.laws.what_may_be_is_done.Goals as goal

pub returns : goal.returns
returns c = law
