-- The rows before the next one have a 0 for their own place, and the largest number for each other one.
use Rattle.std.proofs.Common.{◌≡◌, ◌≢◌, ℕ, ◌<◌, ◌≤◌}
use Rattle.duty_label.specs.Tables.{cell}
use Rattle.duty_label.proofs.tables.Table.clear.Given as goal

abbrev pub invariant-loop-place : goal.invariant-loop-place
invariant-loop-place l = record {
  zeros : (place : ℕ) → place < l.place → cell l.self.rows.items place place ≡ 0;
  nowhere : (from to : ℕ) → from < l.place → to < 64 → from ≢ to → 18446744073709551615 ≤ cell l.self.rows.items from to;
}
