use Rattle.dominance.proofs.Forgetting.{shift_keeps}
use Rattle.dominance.proofs.Shifting.{shift, lists_completions}
use Rattle.dominance.proofs.laws.shift.Goals as goal

pub returns-clause-steps : goal.returns-clause-steps
returns-clause-steps c = shift

pub returns-clause-completions : goal.returns-clause-completions
returns-clause-completions c = lists_completions

pub returns-clause-value : goal.returns-clause-value
returns-clause-value c = shift_keeps
