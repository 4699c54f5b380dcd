use Rattle.std.proofs.Common.{◌≡◌, ◌++◌, ◌∷◌, [], ◌∙◌, ap, refl, take, reverse}
use Rattle.std.proofs.lemmas.List.{take_all}
use Rattle.minute_line.specs.declared.marks.Kind.TheVariants.{Plain}
use Rattle.minute_line.specs.Stints.{is_line}
use Rattle.duty_plan.specs.Duties.{partial_of, open_off_at}
use Rattle.duty_plan.specs.Stints.{stints_of}
use Rattle.duty_plan.proofs.Stretches.{line-partial, stints-more, place-more}
use Rattle.duty_plan.proofs.lines.line_of.Goals as goal

pub loop-step-preserved : goal.loop-step-preserved
loop-step-preserved c = record {
  stints =
      stints-more c.args.case.now.week c.loop-step.stints c.push.new.self c.as_slice-step-items.result.now c.loop-step.step-index _ _ c.mark.result c.loop-step.place c.minutes_at.result
      (c.in_ok-push.ensures.ok ∙ ap (λ x. x ++ record { mark = c.mark.result; minutes = c.minutes_at.result; kind = Plain } ∷ []) c.in_ok-push_stay.ensures)
      c.loop-step.invariant.stints c.loop-step.invariant.place c.mark.ensures.mark c.minutes_at.ensures c.loop-step-test.true refl;
  place =
      place-more c.as_slice-step-items.result.now c.loop-step.step-index _ _ c.loop-step.place c.place_after-place.result c.place_after-place.ensures c.loop-step.invariant.place
      c.loop-step-test.true refl;
}

pub returns : goal.returns
returns c =
    let all : take c.loop-step.step-index c.as_slice-step-items.result.now ≡ c.args.duty.now.steps =
    take_all c.loop-step.step-index c.as_slice-step-items.result.now c.loop-step-test.false ∙ c.as_slice-step-items.ensures in
    c.loop-step.invariant.stints ∙ ap (λ x. stints_of c.args.case.now.week (reverse x)) all

pub invariant_of-result : goal.invariant_of-result
invariant_of-result c =
    let all : take c.loop-step.step-index c.as_slice-step-items.result.now ≡ c.args.duty.now.steps =
    take_all c.loop-step.step-index c.as_slice-step-items.result.now c.loop-step-test.false ∙ c.as_slice-step-items.ensures in
    let stints = c.loop-step.invariant.stints ∙ ap (λ x. stints_of c.args.case.now.week (reverse x)) all in
    record {
      shape = ap is_line stints ∙ line-partial c.args.case.now.week (open_off_at c.args.case.now c.args.driver) (partial_of c.args.duty.now) c.requires.case.week c.requires.steps;
    }
