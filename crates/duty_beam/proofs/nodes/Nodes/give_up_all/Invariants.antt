-- The nodes have labels of the driver's steps, if they had.
use Rattle.std.proofs.Common.{ℕ}
use Rattle.duty_plan.specs.declared.plans.Case.{Case}
use Rattle.duty_plan.specs.declared.pricing.Prices.{Prices}
use Rattle.duty_beam.specs.Nodes.{AreLabels}
use Rattle.duty_beam.proofs.nodes.Nodes.give_up_all.Given as goal

abbrev pub invariant-loop-place : goal.invariant-loop-place
invariant-loop-place l = (case : Case) (driver : ℕ) (prices : Prices) → AreLabels case driver prices l.initial.self → AreLabels case driver prices l.self
