use Rattle.branch_tree.proofs.Runs.{keeps_runs}
use Rattle.branch_tree.proofs.laws.keeps_runs.Goals as goal

pub returns : goal.returns
returns c = keeps_runs
