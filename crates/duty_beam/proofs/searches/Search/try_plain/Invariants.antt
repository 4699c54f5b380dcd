-- The nodes have labels of the driver's steps.
use Rattle.duty_beam.specs.Nodes.{AreLabels}
use Rattle.duty_beam.proofs.searches.Search.try_plain.Given as goal

abbrev pub invariant-loop-off : goal.invariant-loop-off
invariant-loop-off l = AreLabels l.asked.case.now l.asked.driver l.asked.prices.now l.self.nodes
