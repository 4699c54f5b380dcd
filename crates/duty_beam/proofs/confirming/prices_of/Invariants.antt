-- The steps before the next one.
use Rattle.std.proofs.Common.{◌≡◌, reverse, take}
use Rattle.duty_plan.specs.Duties.{orders_of, worth}
use Rattle.duty_plan.specs.Values.{price_at}
use Rattle.duty_beam.proofs.confirming.prices_of.Given as goal

abbrev pub invariant-loop-step : goal.invariant-loop-step
invariant-loop-step l = l.cents ≡ worth (price_at l.prices) (orders_of (reverse (take l.step-index l.steps)))
