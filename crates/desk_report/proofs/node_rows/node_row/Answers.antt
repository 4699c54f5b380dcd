use Rattle.std.proofs.Common.{rules, ◌≡◌, ◌∷◌, [], codes}
use Rattle.std.specs.Fmt.{decimal}
use Rattle.desk_report.proofs.GrowingRows.{node-row-whole}
use Rattle.desk_report.proofs.node_rows.node_row.Goals as goal

pub returns : goal.returns
returns c =
    let node = c.args.node.now in
    let front : c.in_ok-row.row ≡ codes "node" ∷ decimal c.args.number ∷ decimal node.parent ∷ [] = search rules in
    node-row-whole c.args.week.now c.args.number node c.in_ok-row.row c.in_ok-with_decision.field-0 c.in_ok-number-2.field-0 c.in_ok-number-3.field-0
    c.field.result front c.in_ok-with_decision.ensures c.in_ok-number-2.ensures c.in_ok-number-3.ensures (rw c.node_word.ensures at c.field.ensures)
