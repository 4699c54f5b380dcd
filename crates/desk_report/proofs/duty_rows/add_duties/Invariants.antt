use Rattle.std.proofs.Common.{◌≡◌, ◌++◌, drop}
use Rattle.desk_report.specs.Exports.{duties_rows}
use Rattle.desk_report.proofs.duty_rows.add_duties.Given as goal

abbrev pub invariant-loop-driver : goal.invariant-loop-driver
invariant-loop-driver l =
    l.rows ++ duties_rows l.days l.week l.driver (drop l.driver l.duties) ≡ l.fn.rows ++ duties_rows l.days l.week 0 l.duties
