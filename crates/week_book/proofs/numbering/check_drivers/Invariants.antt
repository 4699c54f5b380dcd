use Rattle.std.proofs.Common.{◌≡◌, drop}
use Rattle.week_book.specs.Numbers.{unknown_drivers}
use Rattle.week_book.proofs.numbering.check_drivers.Given as goal

abbrev pub invariant-loop-row : goal.invariant-loop-row
invariant-loop-row l = unknown_drivers l.drivers (drop l.row-index l.rows) ≡ unknown_drivers l.drivers l.rows
