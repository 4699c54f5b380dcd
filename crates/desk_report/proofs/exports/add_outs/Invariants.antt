use Rattle.std.proofs.Common.{◌≡◌, ◌++◌, drop}
use Rattle.desk_report.specs.Exports.{outs_rows}
use Rattle.desk_report.proofs.exports.add_outs.Given as goal

abbrev pub invariant-loop-number : goal.invariant-loop-number
invariant-loop-number l =
    l.rows ++ outs_rows l.week l.duties l.number (drop l.number l.week.orders) ≡ l.fn.rows ++ outs_rows l.week l.duties 0 l.week.orders
