use Rattle.std.proofs.Common.{◌≡◌, reverse, take}
use Rattle.duty_plan.specs.PartialDuties.{place_after}
use Rattle.duty_plan.specs.Stints.{stints_of}
use Rattle.duty_plan.proofs.lines.line_of.Given as goal

abbrev pub invariant-loop-step : goal.invariant-loop-step
invariant-loop-step l = record {
  stints : l.stints ≡ stints_of l.case.week (reverse (take l.step-index l.step-items));
  place : l.place ≡ place_after (reverse (take l.step-index l.step-items));
}
