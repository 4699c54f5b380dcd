use Rattle.price_master.proofs.Lone.{costs_alone}
use Rattle.price_master.proofs.LoneAtStart.{costs_at_start}
use Rattle.price_master.proofs.laws.costs_alone.Goals as goal

pub returns-clause-cost : goal.returns-clause-cost
returns-clause-cost c = costs_alone

pub returns-clause-at_start : goal.returns-clause-at_start
returns-clause-at_start c = costs_at_start
