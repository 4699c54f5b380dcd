use Rattle.desk_report.proofs.WalkingSteps.{lawful-stays}
use Rattle.desk_report.proofs.reports.body.Goals as goal

pub push_drivers-requires-clause-lawful : goal.push_drivers-requires-clause-lawful
push_drivers-requires-clause-lawful c = rw c.as_slice-duties.ensures c.requires.lawful.lawful

pub push_orders-requires-clause-in_week : goal.push_orders-requires-clause-in_week
push_orders-requires-clause-in_week c =
    rw c.as_slice-duties.ensures (λ k duty there.
    lawful-stays c.args.case.now k duty c.requires.case.week (c.requires.lawful.lawful k duty there))
