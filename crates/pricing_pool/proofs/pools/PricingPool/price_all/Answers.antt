use Rattle.std.proofs.Common.{◌≡◌, ℕ, subst, ◌∙◌}
use Rattle.duty_plan.specs.Rounds.{IsRound}
use Rattle.pricing_pool.proofs.pools.PricingPool.price_all.Goals as goal

pub returns-clause-round : goal.returns-clause-round
returns-clause-round g c =
    let drawn = c.in_ok-close.ensures.drawn in
    let chunks : c.in_ok-round.round.chunks ≡ c.args.self.now =
    c.in_ok-round.ensures.round.0 ∙ (c.in_ok-take.ensures.chunks.0 ∙ c.self.view_is) in
    subst (λ (m : ℕ). IsRound m c.args.case.now c.args.pairs.now c.args.prices.now c.in_ok-answers.answers) chunks
    (c.in_ok-answers.ensures.round drawn.0 drawn.1)
