use Rattle.std.proofs.Common.{◌≡◌, ◌∷◌, [], ◌++◌, map, take, codes}
use Rattle.std.specs.Fmt.{decimal}
use Rattle.desk_report.proofs.node_rows.price_row.Given as goal

abbrev pub invariant-loop-cents : goal.invariant-loop-cents
invariant-loop-cents l =
    l.row ≡ (codes "price" ∷ decimal l.number ∷ []) ++ map decimal (take l.cents-index l.cents-items)
