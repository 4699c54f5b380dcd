use Rattle.std.proofs.Common.{◌≡◌, [], map, take, drop}
use Rattle.week_book.specs.Keys.{repeat_after}
use Rattle.week_book.proofs.keys.first_repeat.Given as goal

abbrev pub invariant-loop-entry : goal.invariant-loop-entry
invariant-loop-entry l = record {
  seen : l.seen ≡ map (λ k. k.key) (take l.entry-index l.keys);
  rest : repeat_after (map (λ k. k.key) (take l.entry-index l.keys)) (drop l.entry-index l.keys) ≡ repeat_after [] l.keys;
}
