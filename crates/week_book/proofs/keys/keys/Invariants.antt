use Rattle.std.proofs.Common.{◌≡◌, ◌++◌, drop, filter_map}
use Rattle.week_book.specs.Keys.{keyed_of}
use Rattle.week_book.proofs.keys.keys.Given as goal

abbrev pub invariant-loop-row : goal.invariant-loop-row
invariant-loop-row l = l.keys.items ++ filter_map keyed_of (drop l.row-index l.rows) ≡ filter_map keyed_of l.rows
