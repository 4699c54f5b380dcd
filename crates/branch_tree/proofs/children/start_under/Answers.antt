use Rattle.std.proofs.Common.{◌≡◌, ap, ◌∙◌}
use Rattle.duty_plan.specs.declared.nodes.Node.{Node}
use Rattle.branch_tree.proofs.Sameness.{one-node}
use Rattle.branch_tree.proofs.Walking.{node-at}
use Rattle.branch_tree.proofs.children.start_under.Goals as goal

pub returns : goal.returns
returns c = record {
  pairs = c.in_ok-pairs_under.ensures;
  parent = λ node is.
      let at = node-at c.args.tree.now c.args.number c.index-tree-number.result c.requires.number.0 c.requires.number.1 c.index-tree-number.is in
      let read : c.index-tree-number.result ≡ node = one-node c.args.tree.now c.args.number c.index-tree-number.result node at is in
      (ap (λ (x : Node). x.bound) read, c.in_ok-copied.ensures ∙ ap (λ (x : Node). x.prices) read);
}
