use Rattle.price_master.proofs.Duality.{is_below}
use Rattle.price_master.proofs.laws.below_plans.Goals as goal

pub returns : goal.returns
returns c = is_below
