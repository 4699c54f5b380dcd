use Rattle.std.proofs.Common.{sym, arith}
use Rattle.duty_plan.proofs.Answering.{duties-more, duties-stop, cost-more}
use Rattle.duty_plan.proofs.checks.check_duties.Goals as goal

pub overflow_add-cents : goal.overflow_add-cents
overflow_add-cents c =
    omega (arith, c.in-Ok.ensures.limit, c.loop-driver.invariant.bound, c.loop-driver-test.true, c.requires.few, c.requires.case.week.few.1)

pub loop-driver-preserved : goal.loop-driver-preserved
loop-driver-preserved c = record {
  fault =
      duties-more c.args.case.now c.args.duties.now c.loop-driver.driver c.index-duties-driver.result c.index-duties-driver.result c.in-Ok.cost
      c.loop-driver.invariant.fault (sym c.in-Ok.ensures.verdict) c.loop-driver-test.true c.index-duties-driver.is;
  cents =
      cost-more c.args.case.now c.args.duties.now c.loop-driver.driver c.loop-driver.cents c.in-Ok.cost c.index-duties-driver.result c.index-duties-driver.result
      c.loop-driver.invariant.cents c.in-Ok.ensures.cost c.loop-driver-test.true c.index-duties-driver.is;
  bound = omega (arith, c.in-Ok.ensures.limit, c.loop-driver.invariant.bound);
}

pub returns-in-Err : goal.returns-in-Err
returns-in-Err c =
    duties-stop c.args.case.now c.args.duties.now c.loop-driver.driver c.index-duties-driver.result c.index-duties-driver.result c.in-Err.fault
    c.loop-driver.invariant.fault (sym c.in-Err.ensures.verdict) c.loop-driver-test.true c.index-duties-driver.is
