use Rattle.std.proofs.Common.{◌≡◌, ◌-◌, ◌≤◌, All, [], length, vec_len, vec_capacity, Some}
use Rattle.label_arena.proofs.arenas.Arena.make.Given as goal

abbrev pub invariant-making : goal.invariant-making
invariant-making g l = record {
  short : vec_len l.row ≤ l.chunks;
  long : vec_len l.row ≡ length l.row.items;
  room : l.chunks ≤ vec_capacity l.row;
  empty : All (λ chunk. chunk ≡ Some []) l.row.items;
}

abbrev pub decreases-making : goal.decreases-making
decreases-making g l = l.chunks - vec_len l.row
