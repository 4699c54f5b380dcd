use Rattle.std.proofs.Common.{sym, ◌∙◌}
use Rattle.desk_report.proofs.FindingServices.{is-there, service-here, service-later}
use Rattle.desk_report.proofs.services.service_of.Goals as goal

pub start_in-requires : goal.start_in-requires
start_in-requires c =
    c.requires.in_week c.loop-driver.driver c.index-duties-driver.result
    (is-there c.args.duties.now c.loop-driver.driver c.index-duties-driver.result c.index-duties-driver.result c.loop-driver-test.true c.index-duties-driver.is)

pub loop-driver-preserved : goal.loop-driver-preserved
loop-driver-preserved c =
    sym (service-later c.args.week.now c.args.duties.now c.loop-driver.driver c.index-duties-driver.result c.index-duties-driver.result c.args.order
    c.loop-driver-test.true c.index-duties-driver.is (sym c.in_default.ensures.start))
    ∙ c.loop-driver.invariant

pub returns-in-Some-clause-service : goal.returns-in-Some-clause-service
returns-in-Some-clause-service c =
    sym (service-here c.args.week.now c.args.duties.now c.loop-driver.driver c.index-duties-driver.result c.index-duties-driver.result c.args.order c.in-Some.start
    c.loop-driver-test.true c.index-duties-driver.is (sym c.in-Some.ensures.start))
    ∙ c.loop-driver.invariant
