use Rattle.std.proofs.Common.{◌≡◌, ◌<◌, reverse, take, IfSome}
use Rattle.duty_plan.specs.PartialDuties.{at_after, place_after}
use Rattle.desk_report.specs.Services.{service_start}
use Rattle.desk_report.proofs.services.start_in.Given as goal

abbrev pub invariant-loop-step : goal.invariant-loop-step
invariant-loop-step l = record {
  start : l.found ≡ service_start l.week l.order (reverse (take l.step-index l.step-items));
  in_week : IfSome l.found (λ start. start < 10080);
  at : l.here.at ≡ at_after l.week (reverse (take l.step-index l.step-items));
  place : l.here.place ≡ place_after (reverse (take l.step-index l.step-items));
}
