use Rattle.std.proofs.Common.{refl}
use Rattle.duty_plan.proofs.duty_checks.DutyCheck.begin.Goals as goal

pub returns : goal.returns
returns c = λ week driver. record {
  office = tt;
  steps = refl;
  position = c.on_monday.ensures week;
  cents = refl;
  hours = (c.start.ensures.line, refl);
}
