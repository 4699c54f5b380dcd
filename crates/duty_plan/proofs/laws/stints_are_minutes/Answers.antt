use Rattle.std.proofs.Common.{ap}
use Rattle.minute_line.specs.Minutes.{Reached}
use Rattle.duty_plan.proofs.Stretches.{reached-partial}
use Rattle.duty_plan.proofs.laws.stints_are_minutes.Goals as goal

pub returns : goal.returns
returns c = λ week partial. ap (λ (r : Reached). r.minutes) (reached-partial week partial)
