use Rattle.std.proofs.Common.{◌<◌, length, arith, sym, subst, ap, ◌∙◌, length-append, Some, [], ◌∷◌}
use Rattle.duty_plan.specs.Duties.{EachOf}
use Rattle.pricing_pool.specs.Working.{HasAnswerAt, HasAnswerOfClass}
use Rattle.pricing_pool.proofs.Elements.{each-push, get-at}
use Rattle.pricing_pool.proofs.Ending.{of-class}
use Rattle.pricing_pool.proofs.answers.answers_of.Goals as goal

pub copying-preserved : goal.copying-preserved
copying-preserved c =
    let inv = c.copying.invariant in
    let added = c.in_ok-push.ensures.ok in
    let answer = c.in_ok-answer_at.field-0 in
    let worker = c.index-workers-number in
    let known : c.copying.number < length c.args.workers.now = omega (arith, c.copying-test.true) in
    let at = get-at c.args.workers.now c.copying.number worker.result known ∙ ap Some (sym worker.is) in
    let here : HasAnswerOfClass c.args.workers.now c.copying.number answer =
    of-class c.args.workers.now c.copying.number worker.result answer at
    (subst (λ w. HasAnswerAt c.args.workers.now w.class answer) (sym worker.is) c.in_ok-answer_at.ensures) in
    record {
      count = ap length added ∙ (length-append c.copying.answers (answer ∷ []) ∙ omega (arith, inv.count));
      each = subst (EachOf (HasAnswerOfClass c.args.workers.now)) (sym added)
          (each-push (HasAnswerOfClass c.args.workers.now) c.copying.answers answer inv.each
          (subst (λ k. HasAnswerOfClass c.args.workers.now k answer) (sym inv.count) here));
    }
