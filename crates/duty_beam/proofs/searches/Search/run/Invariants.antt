-- The nodes have labels of the driver's steps.
use Rattle.duty_beam.specs.Nodes.{AreLabels}
use Rattle.duty_beam.proofs.searches.Search.run.Given as goal

abbrev pub invariant-loop-bucket : goal.invariant-loop-bucket
invariant-loop-bucket l = AreLabels l.asked.case.now l.asked.driver l.asked.prices.now l.self.nodes
