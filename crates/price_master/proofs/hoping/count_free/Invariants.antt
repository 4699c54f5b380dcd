use Rattle.std.proofs.Common.{◌≡◌, ◌≤◌}
use Rattle.price_master.specs.Classes.{sum_free}
use Rattle.price_master.proofs.hoping.count_free.Given as goal

abbrev pub invariant-loop-driver : goal.invariant-loop-driver
invariant-loop-driver l = record { count : l.count ≡ sum_free (λ driver. 1) l.places l.driver; few : l.count ≤ l.driver }
