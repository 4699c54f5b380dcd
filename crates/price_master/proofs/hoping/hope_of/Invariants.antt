use Rattle.std.proofs.Common.{◌≡◌, ◌*◌, ◌≤◌, drop, get_or}
use Rattle.price_master.specs.Classes.{first_saving, sum_free}
use Rattle.price_master.proofs.hoping.hope_of.Given as goal

abbrev pub invariant-loop-driver : goal.invariant-loop-driver
invariant-loop-driver l = record {
  hope : l.hope ≡ sum_free (λ driver. first_saving (drop l.from l.list) (get_or l.classes driver 0) l.served) l.places l.driver;
  low : l.hope ≤ l.driver * 1099511627776;
}
