use Rattle.desk_core.proofs.Answered.{plan_answers, check_answers, publish_answers, show_answers, export_answers}
use Rattle.desk_core.proofs.stepping.run.Goals as goal

pub returns-in-Plan-clause-answer : goal.returns-in-Plan-clause-answer
returns-in-Plan-clause-answer g c =
    rw c.in-Plan.is (plan_answers c.in-Plan.text c.in-Plan.limits c.plan.result c.plan.ensures.planned c.plan.ensures.refused c.plan.ensures.cause)

pub returns-in-Check-clause-answer : goal.returns-in-Check-clause-answer
returns-in-Check-clause-answer g c = rw c.in-Check.is (check_answers c.in-Check.text c.check_text.result c.check_text.ensures.lines c.check_text.ensures.cause)

pub returns-in-Publish-clause-answer : goal.returns-in-Publish-clause-answer
returns-in-Publish-clause-answer g c =
    rw c.in-Publish.is (publish_answers c.in-Publish.monday c.in-Publish.revision c.publish.result c.publish.ensures.told c.publish.ensures.refused)

pub returns-in-Show-clause-answer : goal.returns-in-Show-clause-answer
returns-in-Show-clause-answer g c = rw c.in-Show.is (show_answers c.in-Show.monday c.show.result c.show.ensures.refused)

pub returns-in-Export-clause-answer : goal.returns-in-Export-clause-answer
returns-in-Export-clause-answer g c = rw c.in-Export.is (export_answers c.in-Export.monday c.export_kept.result c.export_kept.ensures.refused)

pub returns-in-Plan-clause-step : goal.returns-in-Plan-clause-step
returns-in-Plan-clause-step g c = rw c.in-Plan.is c.plan.ensures.step
