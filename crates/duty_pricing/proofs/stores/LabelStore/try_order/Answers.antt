-- Another order is not tried.
use Rattle.duty_pricing.proofs.Going.{goes-itself}
use Rattle.duty_pricing.proofs.stores.LabelStore.try_order.Goals as goal

pub returns-in_default-clause-on : goal.returns-in_default-clause-on
returns-in_default-clause-on c = goes-itself c.args.asked.now c.args.number c.args.from.now c.args.self.now c.requires.search c.requires.from

pub returns-then-row-from-clause-on : goal.returns-then-row-from-clause-on
returns-then-row-from-clause-on c = goes-itself c.args.asked.now c.args.number c.args.from.now c.args.self.now c.requires.search c.requires.from

pub returns-clause-tried : goal.returns-clause-tried
returns-clause-tried c = λ e _ stay. c.try_act.ensures.tried e stay
