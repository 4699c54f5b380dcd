use Rattle.std.proofs.Common.{◌≡◌, ◌+◌, ◌-◌, ◌≤◌, All, true, vec_len, vec_capacity}
use Rattle.label_arena.specs.Views.{IsNew}
use Rattle.label_arena.proofs.arenas.Arena.open_round.Given as goal

abbrev pub invariant-splitting : goal.invariant-splitting
invariant-splitting g l = record {
  same : l.rest.table_id ≡ l.table.shared.table_id;
  one_word : l.table.shared.table_id.words ≡ 1;
  slots : l.table.shared.table_id.slots ≡ l.chunks;
  key : l.table.shared.key ≡ l.seats;
  parts : l.rest.me.0.parts + vec_len l.opened ≡ 4294967296;
  is_rest : l.rest.me.0.is_rest ≡ true;
  short : vec_len l.opened ≤ l.seats;
  room : l.seats ≤ vec_capacity l.opened;
  new : All (IsNew l.table.shared.table_id) l.opened.items;
}

abbrev pub decreases-splitting : goal.decreases-splitting
decreases-splitting g l = l.seats - vec_len l.opened
