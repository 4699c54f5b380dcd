use Rattle.desk_report.proofs.FindingServices.{is-there}
use Rattle.desk_report.proofs.drivers.push_drivers.Goals as goal

pub push_driver-requires-clause-lawful : goal.push_driver-requires-clause-lawful
push_driver-requires-clause-lawful c =
    c.requires.lawful c.loop-driver.driver c.index-duties-driver.result
    (is-there c.args.duties.now c.loop-driver.driver c.index-duties-driver.result c.index-duties-driver.result c.loop-driver-test.true c.index-duties-driver.is)
