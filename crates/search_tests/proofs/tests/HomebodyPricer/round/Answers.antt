use Rattle.std.proofs.Common.{◌≡◌, List, length, rules, subst, sym}
use Rattle.duty_plan.specs.declared.pricing.Priced.{Priced}
use Rattle.duty_plan.specs.Rounds.{IsRound}
use Rattle.duty_plan.proofs.Home.{home_round}
use Rattle.search_tests.proofs.tests.HomebodyPricer.round.Goals as goal

pub returns-clause-round : goal.returns-clause-round
returns-clause-round g c =
    let whole : c.loop-driver._driver-index ≡ length c.args.case.now.week.drivers = search rules in
    subst (λ (xs : List Priced). IsRound 0 c.args.case.now c.args._pairs.now c.args._prices.now xs) (sym c.loop-driver.invariant)
    (home_round c.args.case.now c.args._pairs.now c.args._prices.now c.requires.prices c.loop-driver._driver-index whole)
