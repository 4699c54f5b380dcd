use Rattle.std.proofs.Common.{◌≡◌, map, take}
use Rattle.week_book.proofs.name_indexes.NameIndex.names.Given as goal

abbrev pub invariant-loop-name : goal.invariant-loop-name
invariant-loop-name l = l.names ≡ map (λ n. n.now) (take l.name-index l.name-items)
