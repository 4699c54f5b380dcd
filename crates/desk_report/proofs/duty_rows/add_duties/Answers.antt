use Rattle.desk_report.proofs.FindingServices.{is-there}
use Rattle.desk_report.proofs.duty_rows.add_duties.Goals as goal

pub add_duty-requires : goal.add_duty-requires
add_duty-requires c =
    c.requires.in_week c.loop-driver.driver c.index-duties-driver.result
    (is-there c.args.duties.now c.loop-driver.driver c.index-duties-driver.result c.index-duties-driver.result c.loop-driver-test.true c.index-duties-driver.is)
