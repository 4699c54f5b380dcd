use Rattle.std.proofs.Common.{◌≡◌, ℕ, List, sym, subst}
use Rattle.std.proofs.lemmas.Result.{IfOk-weaker}
use Rattle.pricing_pool.specs.Pricing.{IsPriced, answer_for}
use Rattle.pricing_pool.proofs.Finding.{priced-from}
use Rattle.pricing_pool.proofs.pricing.Asked.price.Goals as goal

pub returns-clause-answer : goal.returns-clause-answer
returns-clause-answer c =
    let asked = c.args.self.now in
    let priced = priced-from asked.round.now.chunks asked.case.now asked.pairs.now asked.prices.now c.args.driver c.price_driver-found.new.seat.drawn
    c.price_driver-found.new.scratch c.price_driver-found.ensures.seat c.price_driver-found.result c.price_driver-found.ensures.found in
    IfOk-weaker c.answer_of-answer.result (λ a. a ≡ answer_for c.price_driver-found.result c.price_driver-found.new.scratch.labels.steps)
    (IsPriced asked c.args.driver c.give_back.new.seat.drawn)
    (λ a is. subst (λ (xs : List ℕ). IsPriced asked c.args.driver xs a) (sym c.give_back.ensures.seat.drawn)
    (subst (IsPriced asked c.args.driver c.price_driver-found.new.seat.drawn) (sym is) priced))
    c.answer_of-answer.ensures
