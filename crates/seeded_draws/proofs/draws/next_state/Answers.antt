use Rattle.std.proofs.Common.{arith}
use Rattle.seeded_draws.specs.Draws.{state_next}
use Rattle.seeded_draws.proofs.draws.next_state.Goals as goal

pub returns : goal.returns
unfolding state_next
returns c = omega arith
