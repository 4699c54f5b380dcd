use Rattle.std.proofs.Common.{◌≡◌, ◌++◌, reverse, take}
use Rattle.duty_plan.specs.PartialDuties.{at_after, place_after}
use Rattle.desk_report.specs.Exports.{duty_rows}
use Rattle.desk_report.proofs.duty_rows.add_duty.Given as goal

abbrev pub invariant-loop-step : goal.invariant-loop-step
invariant-loop-step l = record {
  rows : l.rows ≡ l.fn.rows ++ duty_rows l.days l.week l.driver (reverse (take l.step-index l.step-items));
  at : l.here.at ≡ at_after l.week (reverse (take l.step-index l.step-items));
  place : l.here.place ≡ place_after (reverse (take l.step-index l.step-items));
}
