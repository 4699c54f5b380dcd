use Rattle.std.proofs.Common.{◌≡◌, ◌+◌, ◌++◌, drop}
use Rattle.desk_report.specs.Exports.{nodes_rows}
use Rattle.desk_report.proofs.node_rows.add_nodes.Given as goal

abbrev pub invariant-loop-place : goal.invariant-loop-place
invariant-loop-place l =
    l.rows ++ nodes_rows l.week (l.place + 1) (drop l.place l.tree) ≡ l.fn.rows ++ nodes_rows l.week 1 l.tree
