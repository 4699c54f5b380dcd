use Rattle.std.proofs.Common.{◌≡◌}
use Rattle.week_maker.specs.Rows.{with_rows, rows_for_each}
use Rattle.week_maker.specs.MadeWeeks.{driver_rows}
use Rattle.week_maker.proofs.drivers.push_drivers.Given as goal

abbrev pub invariant-loop-before : goal.invariant-loop-before
invariant-loop-before l = l.text ≡ with_rows l.fn.text (rows_for_each l.before driver_rows)
