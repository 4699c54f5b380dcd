-- Each act of the place is tried.
use Rattle.duty_plan.specs.declared.duties.Act.{Act}
use Rattle.duty_pricing.specs.Searching.{HasTried}
use Rattle.duty_pricing.proofs.Going.{goes-further, tried-stays, all-acts}
use Rattle.duty_pricing.proofs.stores.LabelStore.extend.Goals as goal

pub returns-then-not-try_orders-clause-on : goal.returns-then-not-try_orders-clause-on
returns-then-not-try_orders-clause-on c = goes-further c.args.asked.now c.args.number c.args.from.now c.args.self.now c.try_legs.new.self c.try_orders.new.self c.try_legs.ensures.on c.try_orders.ensures.on

pub returns-then-from-ne0-clause-on : goal.returns-then-from-ne0-clause-on
returns-then-from-ne0-clause-on c = goes-further c.args.asked.now c.args.number c.args.from.now c.args.self.now c.try_legs.new.self c.try_orders.new.self c.try_legs.ensures.on c.try_orders.ensures.on

pub returns-then-from-ne0-clause-tried : goal.returns-then-from-ne0-clause-tried
returns-then-from-ne0-clause-tried c = λ _ step can.
    all-acts c.args.asked.now.case.now.week c.args.from.now.place
    (λ (act : Act). HasTried c.args.asked.now c.try_orders.new.self c.args.number (record { stay = step.stay; act = act }))
    (λ k leg h at. tried-stays c.args.asked.now c.args.number c.args.from.now c.try_legs.new.self c.try_orders.new.self _ c.try_legs.ensures.on.still c.try_orders.ensures.on.grows
    (c.try_legs.ensures.tried c.if-not-try_legs.false k leg h at step.stay))
    (λ order l at. c.try_orders.ensures.tried c.if-not-try_orders.false order l at step.stay)
    (λ z. absurd (c.if-from-ne0.true z)) step.act can

pub returns-clause-on : goal.returns-clause-on
returns-clause-on c =
    goes-further c.args.asked.now c.args.number c.args.from.now c.args.self.now c.try_orders.new.self c.try_act.new.self
    (goes-further c.args.asked.now c.args.number c.args.from.now c.args.self.now c.try_legs.new.self c.try_orders.new.self c.try_legs.ensures.on c.try_orders.ensures.on) c.try_act.ensures.on

pub returns-clause-tried : goal.returns-clause-tried
returns-clause-tried c = λ e step can.
    let first = goes-further c.args.asked.now c.args.number c.args.from.now c.args.self.now c.try_legs.new.self c.try_orders.new.self c.try_legs.ensures.on c.try_orders.ensures.on in
    all-acts c.args.asked.now.case.now.week c.args.from.now.place
    (λ (act : Act). HasTried c.args.asked.now c.try_act.new.self c.args.number (record { stay = step.stay; act = act }))
    (λ k leg h at. tried-stays c.args.asked.now c.args.number c.args.from.now c.try_orders.new.self c.try_act.new.self _ first.still c.try_act.ensures.on.grows
    (tried-stays c.args.asked.now c.args.number c.args.from.now c.try_legs.new.self c.try_orders.new.self _ c.try_legs.ensures.on.still c.try_orders.ensures.on.grows
    (c.try_legs.ensures.tried c.if-not-try_legs.false k leg h at step.stay)))
    (λ order l at. tried-stays c.args.asked.now c.args.number c.args.from.now c.try_orders.new.self c.try_act.new.self _ first.still c.try_act.ensures.on.grows
    (c.try_orders.ensures.tried c.if-not-try_orders.false order l at step.stay))
    (λ _. c.try_act.ensures.tried e step.stay) step.act can
