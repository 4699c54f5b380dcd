use Rattle.std.proofs.Common.{◌≡◌, reverse, take}
use Rattle.duty_plan.specs.PartialDuties.{at_after, place_after}
use Rattle.desk_report.specs.Lines.{with_lines}
use Rattle.desk_report.specs.Steps.{duty_lines}
use Rattle.desk_report.proofs.steps.push_duty.Given as goal

abbrev pub invariant-loop-step : goal.invariant-loop-step
invariant-loop-step l = record {
  text : l.text ≡ with_lines l.fn.text (duty_lines l.days l.week (reverse (take l.step-index l.step-items)));
  at : l.here.at ≡ at_after l.week (reverse (take l.step-index l.step-items));
  place : l.here.place ≡ place_after (reverse (take l.step-index l.step-items));
}
