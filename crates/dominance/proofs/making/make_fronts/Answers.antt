-- Empty lists have no label.
use Rattle.dominance.proofs.Filed.{empty-filed}
use Rattle.dominance.proofs.making.make_fronts.Goals as goal

pub invariant_of-result : goal.invariant_of-result
invariant_of-result c = record { filed = empty-filed c.loop.by_place.items c.loop.counter c.loop.invariant }
