use Rattle.std.proofs.Common.{◌≡◌, drop}
use Rattle.desk_report.specs.Lines.{with_lines}
use Rattle.desk_report.specs.Reports.{drivers_lines}
use Rattle.desk_report.proofs.drivers.push_drivers.Given as goal

abbrev pub invariant-loop-driver : goal.invariant-loop-driver
invariant-loop-driver l =
    with_lines l.text (drivers_lines l.days l.case l.driver (drop l.driver l.duties)) ≡ with_lines l.fn.text (drivers_lines l.days l.case 0 l.duties)
