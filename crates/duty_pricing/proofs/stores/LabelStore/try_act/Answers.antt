-- Each listed stay is a Plain one or a rest on the grid; a weekly one is at the depot.
use Rattle.std.proofs.Common.{◌*◌}
use Rattle.duty_pricing.proofs.Going.{goes-further, tried-stays, all-stays}
use Rattle.duty_pricing.proofs.Ruling.{away-tried, ends-as}
use Rattle.duty_pricing.proofs.stores.LabelStore.try_act.Goals as goal

pub returns-then-not-try_rests-clause-on : goal.returns-then-not-try_rests-clause-on
returns-then-not-try_rests-clause-on c =
    goes-further c.args.asked.now c.args.number c.args.from.now c.args.self.now c.try_plain.new.self c.try_rests.new.self c.try_plain.ensures.on c.try_rests.ensures.on

pub returns-then-from-ne0-clause-on : goal.returns-then-from-ne0-clause-on
returns-then-from-ne0-clause-on c =
    goes-further c.args.asked.now c.args.number c.args.from.now c.args.self.now c.try_plain.new.self c.try_rests.new.self c.try_plain.ensures.on c.try_rests.ensures.on

pub returns-then-from-ne0-clause-tried : goal.returns-then-from-ne0-clause-tried
returns-then-from-ne0-clause-tried c = λ _.
    let on = goes-further c.args.asked.now c.args.number c.args.from.now c.args.self.now c.try_plain.new.self c.try_rests.new.self c.try_plain.ensures.on c.try_rests.ensures.on in
    all-stays c.args.asked.now c.args.self.now c.args.number c.args.from.now c.requires.asked c.requires.search c.requires.from c.args.act
    c.try_rests.new.self on.grows
    (λ off h. tried-stays c.args.asked.now c.args.number c.args.from.now c.try_plain.new.self c.try_rests.new.self _ c.try_plain.ensures.on.still c.try_rests.ensures.on.grows
    (c.try_plain.ensures.tried c.if-not-try_plain.false off h))
    (c.try_rests.ensures.tried c.if-not-try_rests.false)
    (λ turn h l. away-tried c.args.asked.now c.try_rests.new.self c.args.number (turn * c.args.asked.now.case.now.week.grid)
    c.args.from.now.place c.args.act c.args.from.now.clock.at
    (λ entry e. (ends-as c.args.asked.now c.try_rests.new.self c.args.number c.args.from.now c.requires.asked c.try_rests.ensures.on.search
    c.try_rests.ensures.on.still entry e).1) c.if-from-ne0.true)

pub returns-clause-on : goal.returns-clause-on
returns-clause-on c =
    goes-further c.args.asked.now c.args.number c.args.from.now c.args.self.now c.try_rests.new.self c.try_rests-2.new.self
    (goes-further c.args.asked.now c.args.number c.args.from.now c.args.self.now c.try_plain.new.self c.try_rests.new.self c.try_plain.ensures.on c.try_rests.ensures.on)
    c.try_rests-2.ensures.on

pub returns-clause-tried : goal.returns-clause-tried
returns-clause-tried c = λ e.
    let first = goes-further c.args.asked.now c.args.number c.args.from.now c.args.self.now c.try_plain.new.self c.try_rests.new.self c.try_plain.ensures.on c.try_rests.ensures.on in
    let on = goes-further c.args.asked.now c.args.number c.args.from.now c.args.self.now c.try_rests.new.self c.try_rests-2.new.self first c.try_rests-2.ensures.on in
    all-stays c.args.asked.now c.args.self.now c.args.number c.args.from.now c.requires.asked c.requires.search c.requires.from c.args.act
    c.try_rests-2.new.self on.grows
    (λ off h. tried-stays c.args.asked.now c.args.number c.args.from.now c.try_rests.new.self c.try_rests-2.new.self _ first.still c.try_rests-2.ensures.on.grows
    (tried-stays c.args.asked.now c.args.number c.args.from.now c.try_plain.new.self c.try_rests.new.self _ c.try_plain.ensures.on.still c.try_rests.ensures.on.grows
    (c.try_plain.ensures.tried c.if-not-try_plain.false off h)))
    (λ turn h l. tried-stays c.args.asked.now c.args.number c.args.from.now c.try_rests.new.self c.try_rests-2.new.self _ first.still c.try_rests-2.ensures.on.grows
    (c.try_rests.ensures.tried c.if-not-try_rests.false turn h l))
    (c.try_rests-2.ensures.tried e)
