use Rattle.branch_tree.proofs.Driverless.{driverless}
use Rattle.branch_tree.proofs.laws.without_drivers.Goals as goal

pub returns : goal.returns
returns c = driverless
