use Rattle.dominance.proofs.Forgetting.{may_forget, may_forget_within}
use Rattle.dominance.proofs.laws.bettered_may_be_forgotten.Goals as goal

pub returns-clause-any : goal.returns-clause-any
returns-clause-any c = may_forget

pub returns-clause-within : goal.returns-clause-within
returns-clause-within c = may_forget_within
