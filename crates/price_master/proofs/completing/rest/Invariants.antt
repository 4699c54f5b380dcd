use Rattle.price_master.proofs.Rests.{IsRestSoFar}
use Rattle.price_master.proofs.completing.rest.Given as goal

abbrev pub invariant-loop-order : goal.invariant-loop-order
invariant-loop-order l = IsRestSoFar l.duties l.order l.out
