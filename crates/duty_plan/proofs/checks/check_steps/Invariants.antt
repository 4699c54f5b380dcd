use Rattle.std.proofs.Common.{reverse, take}
use Rattle.duty_plan.specs.DutyChecks.{StandsFor}
use Rattle.duty_plan.proofs.checks.check_steps.Given as goal

abbrev pub invariant-loop-step : goal.invariant-loop-step
invariant-loop-step l = StandsFor l.case.week l.lorry l.history (reverse (take l.step-index l.steps)) l.check
