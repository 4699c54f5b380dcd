-- The rows before the next one are lowered, and those from it on are as they were.
use Rattle.std.proofs.Common.{◌≡◌, ℕ, ◌<◌, ◌≤◌}
use Rattle.duty_label.specs.Tables.{IsLesser, cell}
use Rattle.duty_label.proofs.tables.Table.lower_over.Given as goal

abbrev pub invariant-loop-from : goal.invariant-loop-from
invariant-loop-from l = record {
  done : (from to : ℕ) → from < l.from → to < 64 →
      IsLesser (cell l.initial.self.rows.items from to) (cell l.initial.self.rows.items from l.over) (cell l.initial.self.rows.items l.over to) (cell l.self.rows.items from to);
  rest : (from to : ℕ) → l.from ≤ from → cell l.self.rows.items from to ≡ cell l.initial.self.rows.items from to;
}
