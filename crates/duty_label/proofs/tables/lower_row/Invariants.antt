-- The numbers before the next one are lowered, and those from it on are as they were.
use Rattle.std.proofs.Common.{◌≡◌, ℕ, ◌<◌, ◌≤◌, length}
use Rattle.duty_label.specs.Tables.{IsLesser, number_at}
use Rattle.duty_label.proofs.tables.lower_row.Given as goal

abbrev pub invariant-loop-to : goal.invariant-loop-to
invariant-loop-to l = record {
  size : length l.row ≡ 64;
  done : (to : ℕ) → to < l.to → IsLesser (number_at l.initial.row to) l.first (number_at l.through to) (number_at l.row to);
  rest : (to : ℕ) → l.to ≤ to → number_at l.row to ≡ number_at l.initial.row to;
}
