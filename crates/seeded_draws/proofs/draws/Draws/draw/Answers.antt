use Rattle.std.proofs.Common.{refl}
use Rattle.seeded_draws.proofs.draws.Draws.draw.Goals as goal

pub returns-clause-state : goal.returns-clause-state
returns-clause-state c = c.next_state-self.ensures

pub returns-clause-number : goal.returns-clause-number
returns-clause-number c = rw c.next_state-self.ensures refl
