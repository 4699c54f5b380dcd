use Rattle.desk_report.proofs.WalkingSteps.{lawful-stays}
use Rattle.desk_report.proofs.drivers.push_driver.Goals as goal

pub push_duty-requires : goal.push_duty-requires
push_duty-requires c = lawful-stays c.args.case.now c.args.driver c.args.duty.now c.requires.case.week c.requires.lawful
