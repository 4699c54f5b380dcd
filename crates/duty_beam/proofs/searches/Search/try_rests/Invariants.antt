-- The nodes have labels of the driver's steps.
use Rattle.duty_beam.specs.Nodes.{AreLabels}
use Rattle.duty_beam.proofs.searches.Search.try_rests.Given as goal

abbrev pub invariant-loop-turn : goal.invariant-loop-turn
invariant-loop-turn l = AreLabels l.asked.case.now l.asked.driver l.asked.prices.now l.self.nodes
