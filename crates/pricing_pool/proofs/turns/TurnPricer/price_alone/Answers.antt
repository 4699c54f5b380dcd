-- The one seat drew all that was drawn.
use Rattle.std.proofs.Common.{◌≡◌, ℕ, IfOk, ap, sym, subst, ◌∙◌}
use Rattle.std.proofs.lemmas.Result.{IfOk-weaker}
use Rattle.label_arena.specs.Counting.{times, total}
use Rattle.label_arena.specs.Views.{IsNew}
use Rattle.duty_plan.specs.Rounds.{IsAnswer}
use Rattle.pricing_pool.specs.Pricing.{IsPricedFrom}
use Rattle.pricing_pool.proofs.Elements.{all-only}
use Rattle.pricing_pool.proofs.Lone.{lone-answer}
use Rattle.pricing_pool.proofs.turns.TurnPricer.price_alone.Goals as goal

pub returns-clause-answer : goal.returns-clause-answer
returns-clause-answer c =
    let drawn = c.in_ok-close.ensures.drawn in
    let m = c.in_ok-round.round.chunks in
    let chunks : m ≡ c.args.self.now = (c.in_ok-round.ensures.round.0 ∙ (c.in_ok-take.ensures.chunks.0 ∙ c.self.view_is)) in
    let right = lone-answer m c.args.case.now c.args.pairs.now c.args.prices.now c.args.driver c.requires.driver c.price-answer.new.seat in
    subst (λ (k : ℕ). IfOk c.price-answer.result (IsAnswer k c.args.case.now c.args.pairs.now c.args.prices.now c.args.driver)) chunks
    (IfOk-weaker c.price-answer.result
    (IsPricedFrom m c.args.case.now c.args.pairs.now c.args.prices.now c.args.driver c.price-answer.new.seat.drawn)
    (IsAnswer m c.args.case.now c.args.pairs.now c.args.prices.now c.args.driver)
    (λ a priced. right a priced drawn.0
    (λ x. ap (total (λ s. times x s.drawn)) (sym c.in_ok-ended.ensures) ∙ drawn.1 x))
    c.price-answer.ensures.answer)

pub price-answer-requires-clause-seat : goal.price-answer-requires-clause-seat
price-answer-requires-clause-seat c =
    all-only (IsNew c.in_ok-round.round.name) c.in_ok-round.seats c.only_seat-seat.result c.only_seat-seat.ensures c.in_ok-round.ensures.seats.1
