-- Another leg is not tried.
use Rattle.duty_pricing.proofs.Going.{goes-itself}
use Rattle.duty_pricing.proofs.stores.LabelStore.try_leg.Goals as goal

pub returns-then-leg-from-clause-on : goal.returns-then-leg-from-clause-on
returns-then-leg-from-clause-on c = goes-itself c.args.asked.now c.args.number c.args.from.now c.args.self.now c.requires.search c.requires.from
