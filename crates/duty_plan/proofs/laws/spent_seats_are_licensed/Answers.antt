use Rattle.duty_plan.proofs.JoinedRounds.{joined_licence, lone_licence}
use Rattle.duty_plan.proofs.laws.spent_seats_are_licensed.Goals as goal

pub returns-clause-joined : goal.returns-clause-joined
returns-clause-joined c = joined_licence

pub returns-clause-lone : goal.returns-clause-lone
returns-clause-lone c = lone_licence
