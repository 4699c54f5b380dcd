use Rattle.duty_plan.specs.Duties.{partial_of, open_off_at, capacity_at}
use Rattle.duty_plan.proofs.Stretches.{keeps-line}
use Rattle.duty_tests.proofs.plans.lawful_line.Goals as goal

pub line_of-requires-clause-steps : goal.line_of-requires-clause-steps
line_of-requires-clause-steps c =
    keeps-line c.args.case.now.week (open_off_at c.args.case.now 0) (capacity_at c.args.case.now 0) (partial_of c.args.duty.now)
    (c.check_duty.ensures.lawful.0 c.if-is_err.ensures.negation).partial.office
