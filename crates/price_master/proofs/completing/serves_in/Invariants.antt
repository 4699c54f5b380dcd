use Rattle.std.proofs.Common.{◌≡◌, false, reverse, take}
use Rattle.duty_plan.specs.PartialDuties.{serves}
use Rattle.price_master.proofs.completing.serves_in.Given as goal

abbrev pub invariant-loop-step : goal.invariant-loop-step
invariant-loop-step l = serves l.order (reverse (take l.step-index l.step-items)) ≡ false
