-- The nodes have labels of the driver's steps.
use Rattle.duty_beam.specs.Nodes.{AreLabels}
use Rattle.duty_beam.proofs.searches.Search.try_legs.Given as goal

abbrev pub invariant-loop-leg : goal.invariant-loop-leg
invariant-loop-leg l = AreLabels l.asked.case.now l.asked.driver l.asked.prices.now l.self.nodes
