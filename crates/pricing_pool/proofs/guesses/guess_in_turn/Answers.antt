use Rattle.std.proofs.Common.{Some, ap, sym, ◌∙◌}
use Rattle.std.proofs.lemmas.Result.{IfOk-weaker}
use Rattle.std.specs.Prelude.{IfSome}
use Rattle.duty_plan.specs.Values.{IsChoice}
use Rattle.pricing_pool.proofs.Elements.{get-at}
use Rattle.pricing_pool.proofs.TwinAnswers.{twin-guess}
use Rattle.pricing_pool.proofs.guesses.guess_in_turn.Goals as goal

pub returns-in-Some-clause-guess : goal.returns-in-Some-clause-guess
returns-in-Some-clause-guess c =
    let there = c.in-Some.ensures.lookup in
    let at = get-at c.args.guesses.now c.args.class c.in-Some.guess.now there.3.0 ∙ ap Some (sym there.1) in
    IfOk-weaker c.copy_guess.result _
    (λ g. IfSome g (IsChoice c.args.case.now c.args.driver c.args.pairs.now))
    (twin-guess c.args.case.now c.args.pairs.now c.args.prices.now c.args.class c.args.driver c.args.guesses.now
    c.in-Some.guess.now c.requires.twin c.requires.guesses at)
    c.copy_guess.ensures
