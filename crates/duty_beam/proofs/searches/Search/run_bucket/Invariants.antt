-- The nodes have labels of the driver's steps.
use Rattle.duty_beam.specs.Nodes.{AreLabels}
use Rattle.duty_beam.proofs.searches.Search.run_bucket.Given as goal

abbrev pub invariant-loop : goal.invariant-loop
invariant-loop l = AreLabels l.asked.case.now l.asked.driver l.asked.prices.now l.self.nodes
