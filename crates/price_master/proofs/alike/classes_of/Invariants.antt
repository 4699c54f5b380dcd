use Rattle.price_master.proofs.Classed.{AreClassesTo}
use Rattle.price_master.proofs.alike.classes_of.Given as goal

abbrev pub invariant-loop-driver : goal.invariant-loop-driver
invariant-loop-driver l = AreClassesTo l.bids l.classes l.driver
