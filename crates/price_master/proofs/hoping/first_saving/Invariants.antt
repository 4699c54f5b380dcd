use Rattle.std.proofs.Common.{◌≡◌, drop}
use Rattle.price_master.specs.Classes.{first_saving}
use Rattle.price_master.proofs.hoping.first_saving.Given as goal

abbrev pub invariant-loop-number : goal.invariant-loop-number
invariant-loop-number l = first_saving (drop l.number l.list) l.class l.served ≡ first_saving (drop l.from l.list) l.class l.served
