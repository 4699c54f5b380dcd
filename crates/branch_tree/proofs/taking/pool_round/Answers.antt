use Rattle.std.proofs.Common.{refl, arith}
use Rattle.duty_plan.specs.declared.pricing.Priced.TheVariants.{Least}
use Rattle.duty_plan.proofs.Lists.{slice_get-lt}
use Rattle.price_master.proofs.Lookups.{element-at}
use Rattle.branch_tree.proofs.PooledRounds.{pooled-more}
use Rattle.branch_tree.proofs.taking.pool_round.Goals as goal

pub loop-driver-preserved : goal.loop-driver-preserved
loop-driver-preserved c = record {
  pool = c.pool_duty.ensures.pool;
  pooled = pooled-more c.loop-driver.pool c.pool_duty.new.pool c.args.answers.now c.loop-driver.driver c.index-answers-driver.result c.loop-driver.invariant.pooled
      (element-at c.args.answers.now c.loop-driver.driver c.index-answers-driver.result c.index-answers-driver.result c.loop-driver-test.true c.index-answers-driver.is refl)
      c.in_ok-pool_duty.ensures.pooled c.pool_duty.ensures.others;
}

pub returns-clause-pooled : goal.returns-clause-pooled
returns-clause-pooled c = λ driver value duty h.
    c.loop-driver.invariant.pooled driver value duty (omega (arith, slice_get-lt c.args.answers.now driver (Least value duty) h, c.loop-driver-test.false)) h
