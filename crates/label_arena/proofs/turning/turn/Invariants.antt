use Rattle.std.proofs.Common.{◌≡◌}
use Rattle.label_arena.specs.Holding.{turned_by}
use Rattle.label_arena.proofs.turning.turn.Given as goal

abbrev pub invariant-turning : goal.invariant-turning
invariant-turning g l = record {
  table : l.token.table_id ≡ l.fn.token.table_id;
  row : l.token.me ≡ (l.fn.token.me.0, turned_by l.counter l.fn.token.me.1);
}
