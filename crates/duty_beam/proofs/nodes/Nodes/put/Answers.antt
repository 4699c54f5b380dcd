-- The other nodes are as they were.
use Rattle.std.proofs.lemmas.List.Elements.{All-set}
use Rattle.duty_label.specs.Children.{IsLabelOfSome}
use Rattle.duty_beam.specs.declared.nodes.Node.{Node}
use Rattle.duty_beam.proofs.nodes.Nodes.put.Goals as goal

pub returns-then-number-len : goal.returns-then-number-len
returns-then-number-len c = λ case driver prices all label.
    All-set (λ (node : Node). IsLabelOfSome case driver prices node.label) c.args.self.now.nodes.items c.args.number c.args.node label all
