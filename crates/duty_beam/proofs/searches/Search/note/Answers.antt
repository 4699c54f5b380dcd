use Rattle.std.proofs.Common.{sym, subst}
use Rattle.duty_beam.specs.declared.nodes.Nodes.{Nodes}
use Rattle.duty_beam.specs.Nodes.{AreLabels}
use Rattle.duty_beam.proofs.searches.Search.note.Goals as goal

pub returns-then-node-self : goal.returns-then-node-self
returns-then-node-self c =
    subst (λ (nodes : Nodes). AreLabels c.args.asked.now.case.now c.args.asked.now.driver c.args.asked.now.prices.now nodes) (sym c.learn.ensures) c.requires.nodes

pub returns : goal.returns
returns c =
    c.keep.ensures c.args.asked.now.case.now c.args.asked.now.driver c.args.asked.now.prices.now
    (subst (λ (nodes : Nodes). AreLabels c.args.asked.now.case.now c.args.asked.now.driver c.args.asked.now.prices.now nodes) (sym c.learn.ensures) c.requires.nodes)
    c.requires.label
