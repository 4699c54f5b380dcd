use Rattle.std.proofs.Common.{◌≡◌}
use Rattle.price_master.specs.Classes.{free_of}
use Rattle.price_master.proofs.hoping.free_driver.Given as goal

abbrev pub invariant-loop-driver : goal.invariant-loop-driver
invariant-loop-driver l = free_of l.classes l.places l.driver l.class ≡ 0
