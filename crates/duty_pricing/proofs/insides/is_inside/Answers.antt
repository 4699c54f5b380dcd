-- A duty inside ends at the depot and serves the forced orders.
use Rattle.std.proofs.Common.{◌≡◌, ◌≤◌, ℕ, Bool, true, false, sym, ◌∙◌, subst}
use Rattle.std.specs.Int.{bit_at}
use Rattle.duty_pricing.proofs.Inside.{all-inside, inside-all}
use Rattle.duty_pricing.proofs.insides.is_inside.Goals as goal

pub returns-clause-inside : goal.returns-clause-inside
returns-clause-inside c = λ all partial h keeps. (
  let at = c.if-label-ne0.false in sym h.label_of.place ∙ at,
  all-inside c.args.asked.now.case.now c.args.asked.now.driver c.args.asked.now.pairs.now c.args.asked.now.prices.now partial c.args.label.now h keeps
      (λ o. subst (λ (x : ℕ). bit_at x o ≤ bit_at c.args.label.now.served o) c.requires.asked.is_forced (c.has_all.ensures.0 all o)),
)

clash : (b : Bool) → b ≡ true → b ≡ false → ⊥
clash b t f = cc

pub returns-clause-outside : goal.returns-clause-outside
returns-clause-outside c = λ none partial h home inside.
    let all = inside-all c.args.asked.now.case.now c.args.asked.now.driver c.args.asked.now.pairs.now c.args.asked.now.prices.now partial
    c.args.label.now h inside in
    clash c.has_all.result (c.has_all.ensures.1 (λ o. subst (λ (x : ℕ). bit_at x o ≤ bit_at c.args.label.now.served o) (sym c.requires.asked.is_forced) (all o))) none
