use Rattle.std.proofs.Common.{◌≡◌, drop}
use Rattle.desk_report.specs.Lines.{with_lines}
use Rattle.desk_report.specs.Reports.{orders_lines}
use Rattle.desk_report.proofs.orders.push_orders.Given as goal

abbrev pub invariant-loop-number : goal.invariant-loop-number
invariant-loop-number l =
    with_lines l.text (orders_lines l.days l.week l.duties l.number (drop l.number l.week.orders))
    ≡ with_lines l.fn.text (orders_lines l.days l.week l.duties 0 l.week.orders)
