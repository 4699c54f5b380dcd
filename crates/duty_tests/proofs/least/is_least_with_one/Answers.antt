use Rattle.std.proofs.Common.{◌≡◌, refl, arith}
use Rattle.std.proofs.lemmas.Bool.Decides.{nat_tests}
use Rattle.duty_plan.specs.declared.deciding.Pair.TheVariants.{Free, Forced}
use Rattle.sample_weeks.proofs.TripWeeks.{trip-week}
use Rattle.duty_tests.proofs.LeastTrips.{one-trip}
use Rattle.duty_tests.proofs.least.is_least_with_one.Goals as goal

pub returns-in-Ok-clause-free : goal.returns-in-Ok-clause-free
returns-in-Ok-clause-free c = λ yes.
    let case = c.args.case.now in
    let paid : c.in-Ok.cents ≡ 8000 = grind (arith, nat_tests) in
    one-trip case c.args.duty.now Free c.in-Ok.cents (trip-week case.week c.requires.driver c.requires.roads c.requires.fee c.requires.orders) c.requires.order refl (c.in-Ok.ensures.lawful.0 refl) paid
    c.in-Ok.ensures.cost c.requires.serves

pub returns-in-Ok-clause-forced : goal.returns-in-Ok-clause-forced
returns-in-Ok-clause-forced c = λ yes.
    let case = c.args.case.now in
    let paid : c.in-Ok.cents ≡ 8000 = grind (arith, nat_tests) in
    one-trip case c.args.duty.now Forced c.in-Ok.cents (trip-week case.week c.requires.driver c.requires.roads c.requires.fee c.requires.orders) c.requires.order refl (c.in-Ok.ensures.lawful.0 refl) paid
    c.in-Ok.ensures.cost c.requires.serves
