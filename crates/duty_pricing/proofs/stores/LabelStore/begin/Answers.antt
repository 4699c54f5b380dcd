-- The first label is that of no step, at Monday 00:00 at the depot.
use Rattle.std.proofs.Common.{[], refl, subst, arith}
use Rattle.std.specs.Prelude.{ℤ}
use Rattle.duty_label.proofs.Values.{fits}
use Rattle.duty_pricing.specs.Searching.{Learns}
use Rattle.duty_pricing.proofs.Fields.{small}
use Rattle.duty_pricing.proofs.Beginning.{first-stored, first-learned}
use Rattle.duty_pricing.proofs.stores.LabelStore.begin.Goals as goal

pub store-requires-clause-minute : goal.store-requires-clause-minute
store-requires-clause-minute c =
    let is = c.first-label.ensures.label c.args.asked.now.prices.now in omega (arith, is.clock.at)

pub store-requires-clause-place : goal.store-requires-clause-place
store-requires-clause-place c =
    let is = c.first-label.ensures.label c.args.asked.now.prices.now in
    let some = c.requires.asked.is_case.week.places in omega (arith, is.place)

pub returns-then-is_inside-clause-search : goal.returns-then-is_inside-clause-search
returns-then-is_inside-clause-search c = λ _.
    let is = c.first-label.ensures.label c.args.asked.now.prices.now in
    let tiny = small c.args.asked.now.case.now c.args.asked.now.driver c.args.asked.now.prices.now c.first-label.result c.requires.asked.is_case
    c.requires.asked.are_prices (c.first-label.ensures.some c.args.asked.now.prices.now) in
    let learnt = subst (λ (v : ℤ). Learns c.store.new.self c.learn.new.self v 0) (fits c.first-label.result.value tiny) c.learn.ensures in
    let inside = c.is_inside.ensures.inside c.if-is_inside.true [] (record { lawful = record { office = tt; hours = refl }; label_of = is }) (λ o l p. refl) in
    first-learned c.args.asked.now c.first-label.result _ c.args.self.now c.store.new.self c.learn.new.self c.requires.asked is c.requires.empty
    (c.store.ensures.stored c.if-not-store.false) c.store.ensures.chained c.store.ensures.size.0 c.store.ensures.size.1 c.store.ensures.known.0 c.store.ensures.known.1 learnt
    inside.1

pub returns-else-is_inside-clause-search : goal.returns-else-is_inside-clause-search
returns-else-is_inside-clause-search c = λ _.
    let is = c.first-label.ensures.label c.args.asked.now.prices.now in
    first-stored c.args.asked.now c.first-label.result _ c.args.self.now c.store.new.self c.requires.asked is c.requires.empty
    (c.store.ensures.stored c.if-not-store.false) c.store.ensures.chained c.store.ensures.size.0 c.store.ensures.size.1 c.store.ensures.known.0 c.store.ensures.known.1
    (λ i. c.is_inside.ensures.outside c.if-is_inside.false [] (record { lawful = record { office = tt; hours = refl }; label_of = is }) refl i)
