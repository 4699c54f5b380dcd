use Rattle.duty_plan.proofs.OfficeSteps.{no-bit}
use Rattle.duty_plan.proofs.office.with_bit.Goals as goal

pub returns-in-Leg : goal.returns-in-Leg
returns-in-Leg c = no-bit c.args.act c.args.served c.in-Leg.is
