-- By the outlook, where a value is known.
use Rattle.std.proofs.Common.{◌≡◌, subst, arith, rules, w64, of_z, to_z}
use Rattle.std.specs.Prelude.{ℤ}
use Rattle.std.proofs.lemmas.Int.{ints}
use mir.Val.{SFits}
use Rattle.duty_outlook.specs.Laws.{HasNoBelow}
use Rattle.duty_pricing.proofs.Pruned.{outlook-hopeless}
use Rattle.duty_pricing.proofs.hoping.is_ruled_out.Goals as goal

pub returns-in-Some : goal.returns-in-Some
returns-in-Some c = λ e partial later h s.
    let f : SFits w64 c.in-Some.known = search rules in
    let same : to_z w64 (of_z w64 c.in-Some.known) ≡ c.in-Some.known = omega (arith, ints) in
    outlook-hopeless c.args.asked.now.case.now c.args.asked.now.driver c.args.asked.now.pairs.now c.args.asked.now.prices.now later c.args.known
    c.in-Some.known c.in-Some.is
    (subst (λ (v : ℤ). HasNoBelow c.args.asked.now.case.now c.args.asked.now.driver c.args.asked.now.pairs.now c.args.asked.now.prices.now later v) same
    (c.is_hopeless.ensures.later e c.args.asked.now.case.now c.args.asked.now.driver c.args.asked.now.pairs.now c.args.asked.now.prices.now partial later
    c.requires.asked.outlook h.label_of s))
