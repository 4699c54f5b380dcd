use Rattle.price_master.proofs.Decided.{is_exact}
use Rattle.price_master.proofs.laws.is_exact.Goals as goal

pub returns : goal.returns
returns c = is_exact
