-- So many empty lists.
use Rattle.std.proofs.Common.{◌≡◌, [], replicate}
use Rattle.dominance.proofs.making.make_fronts.Given as goal

abbrev pub invariant-loop : goal.invariant-loop
invariant-loop l = l.by_place.items ≡ replicate l.counter []
