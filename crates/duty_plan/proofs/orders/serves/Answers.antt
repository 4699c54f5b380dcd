use Rattle.std.proofs.Common.{◌≡◌, ◌∙◌, sym, ap, refl, take, reverse}
use Rattle.std.proofs.lemmas.List.{take_all}
use Rattle.duty_plan.specs.PartialDuties.{serves}
use Rattle.duty_plan.proofs.Carrying.{serves-found, serves-passed}
use Rattle.duty_plan.proofs.orders.serves.Goals as goal

pub loop-step-preserved : goal.loop-step-preserved
loop-step-preserved c =
    serves-passed c.args.order c.args.steps.now c.loop-step.step-index _ _ (sym c.is_service.ensures ∙ c.if-is_service.false)
    c.loop-step.invariant c.loop-step-test.true refl

pub returns-then-is_service : goal.returns-then-is_service
returns-then-is_service c =
    sym (serves-found c.args.order (record { steps = c.args.steps.now }) c.args.steps.now c.loop-step.step-index _ _ refl
    (sym c.is_service.ensures ∙ c.if-is_service.true) c.loop-step-test.true refl)

pub returns : goal.returns
returns c =
    let all : take c.loop-step.step-index c.args.steps.now ≡ c.args.steps.now =
    take_all c.loop-step.step-index c.args.steps.now c.loop-step-test.false in
    sym c.loop-step.invariant ∙ ap (λ x. serves c.args.order (reverse x)) all
