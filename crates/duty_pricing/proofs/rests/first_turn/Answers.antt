-- A turn before the first ends a rest that is too short.
use Rattle.std.proofs.Common.{◌<◌, ℕ, subst, arith}
use Rattle.duty_pricing.proofs.Resting.{turn-before}
use Rattle.duty_pricing.proofs.rests.first_turn.Goals as goal

pub returns : goal.returns
returns c = λ turn l late.
    let early = turn-before turn c.saturating_add-end.result c.args.asked.now.case.now.week.grid c.requires.asked.is_case.week.grid
    (subst (λ (k : ℕ). turn < k) c.div_ceil.ensures l) in
    omega arith
