use Rattle.std.proofs.Common.{◌≡◌, subst, List, ℕ, Result, Ok, Err}
use Rattle.desk_core.specs.declared.commands.Command.{Command}
use Rattle.desk_http.specs.declared.early.Early.{Early}
use Rattle.desk_http.specs.Requests.{Asks}
use Rattle.desk_http.proofs.Answered.{answered, answered_early}
use Rattle.desk_http.proofs.Plans.{plans_result}
use Rattle.desk_http.proofs.answering.answer.Goals as goal

pub returns-in-Ok-clause-answer : goal.returns-in-Ok-clause-answer
returns-in-Ok-clause-answer g c =
    let asked = subst (λ (r : List ℕ). (said : Result Command Early) × Asks r said × (said ≡ Ok c.in-Ok.command)) c.as_slice.ensures c.in-Ok.ensures.asked in
    answered c.args.request.now c.in-Ok.command (g.B.Keeper.tables c.args.keeper.now) (g.B.Keeper.tables c.step-reply.new.keeper) c.step-reply.result c.reply_answer.result
    asked c.step-reply.ensures.step c.step-reply.ensures.answer c.reply_answer.ensures.ok c.reply_answer.ensures.err

pub returns-in-Ok-clause-planned : goal.returns-in-Ok-clause-planned
returns-in-Ok-clause-planned g c =
    plans_result c.args.request.now (g.B.Keeper.tables c.args.keeper.now) (g.B.Keeper.tables c.step-reply.new.keeper) c.reply_answer.result (returns-in-Ok-clause-answer g c)

pub returns-in-Err-Early-clause-answer : goal.returns-in-Err-Early-clause-answer
returns-in-Err-Early-clause-answer g c =
    let said = rw c.in-Err-Early.field-0-is at c.in-Err-Early.ensures.asked in
    let line = rw c.in-Err-Early.field-0-is at c.early_answer.ensures in
    let asked = subst (λ (r : List ℕ). (said : Result Command Early) × Asks r said × (said ≡ Err c.in-Err-Early.early)) c.as_slice.ensures said in
    answered_early c.args.request.now c.in-Err-Early.early (g.B.Keeper.tables c.args.keeper.now) c.early_answer.result asked line

pub returns-in-Err-Early-clause-planned : goal.returns-in-Err-Early-clause-planned
returns-in-Err-Early-clause-planned g c =
    plans_result c.args.request.now (g.B.Keeper.tables c.args.keeper.now) (g.B.Keeper.tables c.args.keeper.now) c.early_answer.result (returns-in-Err-Early-clause-answer g c)
