use Rattle.std.proofs.Common.{◌≡◌, ◌+◌, map, nat_le, drop}
use Rattle.week_book.specs.Ranges.{first_outside}
use Rattle.week_book.proofs.fields.weeks_outside.Given as goal

abbrev pub invariant-loop-week : goal.invariant-loop-week
invariant-loop-week l = record {
  place : l.field ≡ l.week-index + 4;
  rest : first_outside l.row l.field (map (λ m. nat_le m 10080) (drop l.week-index l.weeks)) ≡ first_outside l.row 4 (map (λ m. nat_le m 10080) l.weeks);
}
