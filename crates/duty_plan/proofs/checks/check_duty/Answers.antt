use Rattle.duty_plan.proofs.Answering.{limit-answer}
use Rattle.duty_plan.proofs.checks.check_duty.Goals as goal

pub returns-clause-limit : goal.returns-clause-limit
returns-clause-limit c =
    limit-answer c.args.case.now c.args.driver (record { steps = c.as_slice.result.now }) c.check_steps.result c.requires.case c.check_steps.ensures.lawful
    c.check_steps.ensures.cost
