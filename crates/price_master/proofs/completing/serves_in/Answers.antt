use Rattle.std.proofs.Common.{◌≡◌, ◌∙◌, sym, ap, refl, take, reverse}
use Rattle.std.proofs.lemmas.List.{take_all}
use Rattle.duty_plan.specs.PartialDuties.{serves}
use Rattle.duty_plan.proofs.Carrying.{serves-found, serves-passed}
use Rattle.price_master.proofs.completing.serves_in.Goals as goal

pub loop-step-preserved : goal.loop-step-preserved
loop-step-preserved c =
    serves-passed c.args.order c.as_slice-step-items.result.now c.loop-step.step-index _ _ (sym c.is_service.ensures ∙ c.if-is_service.false)
    c.loop-step.invariant c.loop-step-test.true refl

pub returns-then-is_service : goal.returns-then-is_service
returns-then-is_service c =
    sym (serves-found c.args.order c.args.duty.now c.as_slice-step-items.result.now c.loop-step.step-index _ _ c.as_slice-step-items.ensures
    (sym c.is_service.ensures ∙ c.if-is_service.true) c.loop-step-test.true refl)

pub returns : goal.returns
returns c =
    let all : take c.loop-step.step-index c.as_slice-step-items.result.now ≡ c.args.duty.now.steps =
    take_all c.loop-step.step-index c.as_slice-step-items.result.now c.loop-step-test.false ∙ c.as_slice-step-items.ensures in
    sym c.loop-step.invariant ∙ ap (λ x. serves c.args.order (reverse x)) all
