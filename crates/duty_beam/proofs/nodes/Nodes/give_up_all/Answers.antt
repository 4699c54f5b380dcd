use Rattle.duty_beam.proofs.nodes.Nodes.give_up_all.Goals as goal

pub loop-place-preserved : goal.loop-place-preserved
loop-place-preserved c = λ case driver prices all. c.give_up.ensures case driver prices (c.loop-place.invariant case driver prices all)
