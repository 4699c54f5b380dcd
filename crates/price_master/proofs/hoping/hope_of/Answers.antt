use Rattle.std.proofs.Common.{◌≡◌, ap, arith, drop, get_or}
use Rattle.price_master.specs.Classes.{first_saving, sum_free}
use Rattle.price_master.proofs.Bounded.{hope-holds}
use Rattle.price_master.proofs.hoping.hope_of.Goals as goal

pub returns-clause-most : goal.returns-clause-most
returns-clause-most c = λ more can.
    let all : c.loop-driver.driver ≡ c.args.drivers = omega arith in
    let whole = ap (sum_free (λ driver. first_saving (drop c.args.from c.args.list.now) (get_or c.args.classes.now driver 0) c.args.served) c.args.places.now) all in
    omega (
      arith,
      c.loop-driver.invariant.hope,
      whole,
      hope-holds c.args.list.now c.args.classes.now c.args.places.now c.args.from c.args.drivers c.args.served more c.requires.falling (omega (arith, c.requires.drivers)) can,
    )
