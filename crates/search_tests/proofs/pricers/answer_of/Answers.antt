-- In a week of one order both duties are least.
use Rattle.std.proofs.Common.{arith, pos, subst, sym}
use Rattle.duty_plan.specs.declared.duties.Duty.{Duty}
use Rattle.duty_plan.specs.Values.{IsLeast}
use Rattle.search_tests.proofs.OneOrder.{IsOffer, gain, idle_least, trip_least}
use Rattle.search_tests.proofs.pricers.answer_of.Goals as goal

pub returns-then-is_idle : goal.returns-then-is_idle
returns-then-is_idle c =
    let offer : IsOffer c.args.case.now c.args.driver c.args.pairs.now c.args.prices.now c.pair.result c.fee_of-fee.result c.price_of-price.result = record {
      one = omega (arith, c.len.ensures, c.if-len-ne1.false);
      is_pair = c.pair.ensures;
      is_fee = c.fee_of-fee.ensures.fee;
      is_price = c.price_of-price.ensures.price;
    } in
    subst (λ (duty : Duty). IsLeast c.args.case.now c.args.driver c.args.pairs.now c.args.prices.now (pos 0) duty) (sym c.no_duty.ensures)
    (idle_least _ _ _ _ _ _ _ offer (c.is_idle.ensures.idle c.if-is_idle.true))

pub returns : goal.returns
returns c =
    let offer : IsOffer c.args.case.now c.args.driver c.args.pairs.now c.args.prices.now c.pair.result c.fee_of-fee.result c.price_of-price.result = record {
      one = omega (arith, c.len.ensures, c.if-len-ne1.false);
      is_pair = c.pair.ensures;
      is_fee = c.fee_of-fee.ensures.fee;
      is_price = c.price_of-price.ensures.price;
    } in
    trip_least _ _ _ _ _ _ _ _ c.in_ok-trip.trip offer (c.is_idle.ensures.busy c.if-is_idle.false)
    (c.carries_for.ensures.lawful c.if-not-carries_for.false) (c.carries_for.ensures.cost c.if-not-carries_for.false) (c.carries_for.ensures.serves c.if-not-carries_for.false)
    (gain c.fee_of-fee.result c.price_of-price.result c.fee_of-fee.ensures.bound c.price_of-price.ensures.bound)
