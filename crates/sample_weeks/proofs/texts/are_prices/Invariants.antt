-- The orders before the next one.
use Rattle.std.proofs.Common.{ℕ, ◌<◌, ◌≤◌}
use Rattle.duty_plan.specs.Duties.{price_of}
use Rattle.duty_plan.specs.Values.{price_at}
use Rattle.sample_weeks.proofs.texts.are_prices.Given as goal

abbrev pub invariant-loop-order : goal.invariant-loop-order
invariant-loop-order l = (order : ℕ) → order < l.order → price_at l.prices order ≤ price_of l.week order
