use Rattle.desk_laws.proofs.Moving.{histories_move as law}
use Rattle.desk_laws.proofs.laws.histories_move.Goals as goal

pub returns : goal.returns
returns c = law
