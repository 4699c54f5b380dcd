use Rattle.branch_tree.proofs.Splits.{splits}
use Rattle.branch_tree.proofs.laws.splits_plans.Goals as goal

pub returns : goal.returns
returns c = splits
