-- The first node has the label of no step.
use Rattle.std.proofs.Common.{rules}
use Rattle.duty_beam.proofs.searches.Search.run.Goals as goal

pub loop-bucket-init : goal.loop-bucket-init
loop-bucket-init c =
    c.keep.ensures c.args.asked.now.case.now c.args.asked.now.driver c.args.asked.now.prices.now
    (c.clear.ensures c.args.asked.now.case.now c.args.asked.now.driver c.args.asked.now.prices.now) (search rules)
