use Rattle.std.proofs.Common.{[], ◌≡◌, ◌+◌, ◌<◌, ◌≤◌, ℕ, All, true, false, length, get_or, vec_capacity, Some}
use mathlib.Core.Option.{some}
use lib.ListN.{get_elem?}
use Rattle.std.specs.Mem.Slots.{slots_items, slots_filled, slots_len}
use Rattle.label_arena.specs.Views.{IsReady}
use Rattle.label_arena.specs.Counting.{times, total}
use Rattle.label_arena.proofs.rounds.Round.close.Given as goal

abbrev pub invariant-joining : goal.invariant-joining
invariant-joining g l = record {
  same : l.all.table_id ≡ l.table.shared.table_id;
  one_word : l.table.shared.table_id.words ≡ 1;
  slots : l.table.shared.table_id.slots ≡ l.chunks;
  chunks : l.chunks ≡ l.fn.self.chunks;
  back : l.all.me.0.has_returned ≡ true;
  seat : l.all.me.0.is_rest ≡ false;
  parts : l.all.me.0.parts + length l.left.items ≡ l.table.shared.key;
  drawn : (x : ℕ) → times x l.all.me.0.drawn + total (λ s. times x s.drawn) l.left.items ≡ total (λ s. times x s.drawn) l.fn.seats;
  ready : All (IsReady l.table.shared.table_id) l.left.items;
}

abbrev pub decreases-joining : goal.decreases-joining
decreases-joining g l = length l.left.items

abbrev pub invariant-taking : goal.invariant-taking
invariant-taking g l = record {
  words : slots_len l.closed.slots ≡ l.chunks;
  chunks : l.chunks ≡ l.fn.self.chunks;
  long : length l.row.items ≡ l.i;
  room : l.chunks ≤ vec_capacity l.row;
  empty : All (λ chunk. chunk ≡ Some []) l.row.items;
  full : (k : ℕ) → l.i ≤ k → k < l.chunks → get_or (slots_filled l.closed.slots) k false ≡ true;
  gone : (k : ℕ) → k < l.i → get_or (slots_filled l.closed.slots) k false ≡ false;
  values : (k : ℕ) (y : _) → get_elem? (slots_items l.closed.slots) k ≡ some y → y ≡ Some [];
}
