use Rattle.dominance.proofs.Simulating.{simulate, keeps_completions}
use Rattle.dominance.proofs.laws.simulate.Goals as goal

pub returns-clause-steps : goal.returns-clause-steps
returns-clause-steps c = simulate

pub returns-clause-completions : goal.returns-clause-completions
returns-clause-completions c = keeps_completions
