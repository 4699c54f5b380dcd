use Rattle.desk_core.proofs.Verdicts.{lines_are_verdicts as law}
use Rattle.desk_core.proofs.laws.lines_are_verdicts.Goals as goal

pub returns : goal.returns
returns c = law
