use Rattle.std.proofs.Common.{◌≡◌, ◌++◌, drop}
use Rattle.week_book.specs.Numbers.{place_names}
use Rattle.week_book.proofs.numbering.place_index.Given as goal

abbrev pub invariant-loop-row : goal.invariant-loop-row
invariant-loop-row l = l.name_index ++ place_names (drop l.row-index l.rows) ≡ place_names l.rows
