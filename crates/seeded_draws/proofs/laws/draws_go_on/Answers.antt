use Rattle.seeded_draws.proofs.GoingOn.{drawn-below, drawn-on}
use Rattle.seeded_draws.proofs.laws.draws_go_on.Goals as goal

pub returns-clause-below : goal.returns-clause-below
returns-clause-below c = drawn-below

pub returns-clause-on : goal.returns-clause-on
returns-clause-on c = drawn-on
