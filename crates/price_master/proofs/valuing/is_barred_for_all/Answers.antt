use Rattle.std.proofs.Common.{◌≡◌, false, length, sym, arith}
use Rattle.duty_plan.specs.Values.{is_barred, pair_at}
use Rattle.price_master.proofs.Limits.{all-fails}
use Rattle.price_master.proofs.valuing.is_barred_for_all.Goals as goal

pub returns-then-not-is_barred : goal.returns-then-not-is_barred
returns-then-not-is_barred c =
    let fails : is_barred (pair_at c.args.pairs.now c.loop-driver.driver c.args.order) ≡ false = grind arith in
    sym (all-fails (λ driver. is_barred (pair_at c.args.pairs.now driver c.args.order)) (length c.args.week.now.drivers) c.loop-driver.driver (omega arith) fails)
