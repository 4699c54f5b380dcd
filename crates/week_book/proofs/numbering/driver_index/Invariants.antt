use Rattle.std.proofs.Common.{◌≡◌, ◌++◌, drop}
use Rattle.week_book.specs.Numbers.{driver_names}
use Rattle.week_book.proofs.numbering.driver_index.Given as goal

abbrev pub invariant-loop-row : goal.invariant-loop-row
invariant-loop-row l = l.name_index ++ driver_names (drop l.row-index l.rows) ≡ driver_names l.rows
