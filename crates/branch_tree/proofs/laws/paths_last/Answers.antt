use Rattle.branch_tree.proofs.Growing.{paths_last, decided_has_no_free}
use Rattle.branch_tree.proofs.laws.paths_last.Goals as goal

pub returns-clause-grown : goal.returns-clause-grown
returns-clause-grown c = paths_last

pub returns-clause-decided : goal.returns-clause-decided
returns-clause-decided c = decided_has_no_free
