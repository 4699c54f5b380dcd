use Rattle.std.proofs.Common.{Some, ap, sym, ◌∙◌}
use Rattle.std.proofs.lemmas.Result.{IfOk-weaker}
use Rattle.duty_plan.specs.Rounds.{IsAnswer}
use Rattle.pricing_pool.proofs.Elements.{get-at}
use Rattle.pricing_pool.proofs.TwinAnswers.{twin-answer}
use Rattle.pricing_pool.proofs.turns.TurnPricer.answer_in_turn.Goals as goal

pub returns-in-Some-clause-answer : goal.returns-in-Some-clause-answer
returns-in-Some-clause-answer c =
    let there = c.in-Some.ensures.lookup in
    let at = get-at c.args.answers.now c.args.class c.in-Some.answer.now there.3.0 ∙ ap Some (sym there.1) in
    IfOk-weaker c.copy_answer.result _
    (IsAnswer c.args.self.now c.args.case.now c.args.pairs.now c.args.prices.now c.args.driver)
    (twin-answer c.args.self.now c.args.case.now c.args.pairs.now c.args.prices.now c.args.class c.args.driver c.args.answers.now
    c.in-Some.answer.now c.requires.twin c.requires.answers at)
    c.copy_answer.ensures
