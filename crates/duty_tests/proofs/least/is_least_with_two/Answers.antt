use Rattle.std.proofs.Common.{◌≡◌, refl, arith}
use Rattle.std.proofs.lemmas.Bool.Decides.{nat_tests}
use Rattle.sample_weeks.proofs.TripWeeks.{trip-week}
use Rattle.duty_tests.proofs.LeastTrips.{two-trip}
use Rattle.duty_tests.proofs.least.is_least_with_two.Goals as goal

pub returns-in-Ok-clause-free : goal.returns-in-Ok-clause-free
returns-in-Ok-clause-free c = λ yes.
    let case = c.args.case.now in
    let paid : c.in-Ok.cents ≡ 8000 = grind (arith, nat_tests) in
    two-trip case c.args.duty.now c.in-Ok.cents (trip-week case.week c.requires.driver c.requires.roads c.requires.fee c.requires.orders) c.requires.order (c.in-Ok.ensures.lawful.0 refl) paid
    c.in-Ok.ensures.cost c.requires.serves_a c.requires.serves_b
