use Rattle.desk_core.proofs.Standing.{issues_stand as law}
use Rattle.desk_core.proofs.laws.issues_stand.Goals as goal

pub returns : goal.returns
returns c = law
