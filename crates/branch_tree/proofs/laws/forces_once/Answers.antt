use Rattle.branch_tree.proofs.ForcedOnce.{forced_once}
use Rattle.branch_tree.proofs.OncePaths.{paths_force_once}
use Rattle.branch_tree.proofs.laws.forces_once.Goals as goal

pub returns-clause-nodes : goal.returns-clause-nodes
returns-clause-nodes c = forced_once

pub returns-clause-paths : goal.returns-clause-paths
returns-clause-paths c = paths_force_once
