use Rattle.desk_keeper.proofs.Publications.{publication_moves_its_drivers as law}
use Rattle.desk_keeper.proofs.laws.publication_moves_its_drivers_alone.Goals as goal

pub returns : goal.returns
returns c = law
