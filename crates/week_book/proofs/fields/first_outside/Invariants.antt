use Rattle.std.proofs.Common.{◌≡◌, ◌+◌, drop}
use Rattle.week_book.specs.Ranges.{first_outside}
use Rattle.week_book.proofs.fields.first_outside.Given as goal

abbrev pub invariant-loop-is_in : goal.invariant-loop-is_in
invariant-loop-is_in l = record {
  place : l.field ≡ l.is_in-index + 2;
  rest : first_outside l.row l.field (drop l.is_in-index l.fields) ≡ first_outside l.row 2 l.fields;
}
