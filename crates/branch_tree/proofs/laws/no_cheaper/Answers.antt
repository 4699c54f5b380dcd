use Rattle.branch_tree.proofs.Cover.{no_cheaper}
use Rattle.branch_tree.proofs.laws.no_cheaper.Goals as goal

pub returns : goal.returns
returns c = no_cheaper
