use Rattle.std.proofs.Common.{◌≡◌, take, drop}
use Rattle.week_book.specs.Faults.{first_fault}
use Rattle.week_book.specs.Ranges.{did_names, range_of, range_fault}
use Rattle.week_book.proofs.ranges.check_ranges.Given as goal

abbrev pub invariant-loop-row : goal.invariant-loop-row
invariant-loop-row l = record {
  begun : l.begun ≡ did_names (take l.row-index l.rows);
  rest : first_fault range_of (take l.row-index l.rows) (drop l.row-index l.rows) ≡ range_fault l.rows;
}
