use Rattle.dominance.proofs.PricedOut.{prices_out}
use Rattle.dominance.proofs.laws.exhausted_labels_price_out.Goals as goal

pub returns : goal.returns
returns c = prices_out
