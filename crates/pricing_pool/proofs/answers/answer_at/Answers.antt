use Rattle.std.proofs.Common.{Some, ap, sym, ◌∙◌, get_or}
use Rattle.std.proofs.lemmas.Result.{IfOk-weaker}
use Rattle.pricing_pool.specs.Working.{HasAnswerAt}
use Rattle.pricing_pool.proofs.Elements.{get-at}
use Rattle.pricing_pool.proofs.answers.answer_at.Goals as goal

pub returns-in-Some : goal.returns-in-Some
returns-in-Some c =
    let workers = c.args.workers.now in
    let last = c.index-workers-number.result in
    IfOk-weaker c.copy_answer.result _ (HasAnswerAt workers c.args.number)
    (λ a is. record {
      worker = get_or workers c.args.number last;
      is_worker = get-at workers c.args.number last c.requires;
      is_answer = c.in-Some.is ∙ ap Some (sym is);
    })
    c.copy_answer.ensures
