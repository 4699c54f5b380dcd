use Rattle.duty_plan.proofs.Stepping.{fault_stays-step}
use Rattle.duty_plan.proofs.duty_checks.hours_after.Goals as goal

pub returns-in-Err : goal.returns-in-Err
returns-in-Err c = λ past week a.
    fault_stays-step past c.in-Err.broken c.args.stay c.args.mark c.args.minutes week (rw c.in-Err.is at a)
