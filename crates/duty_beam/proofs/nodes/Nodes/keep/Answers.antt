use Rattle.duty_beam.proofs.nodes.Nodes.keep.Goals as goal

pub returns : goal.returns
returns c = λ case driver prices all label.
    c.note_floor.ensures case driver prices (c.insert.ensures case driver prices (c.give_up_all.ensures case driver prices all) label)
