-- Each of the five lengths was tried.
use Rattle.std.proofs.Common.{◌≡◌, Bool, true, false, ℕ, below_more, sym, subst, arith}
use Rattle.hours_rules.specs.declared.clocks.Stay.{Stay}
use Rattle.duty_pricing.specs.Listing.{plain_stay}
use Rattle.duty_pricing.specs.Searching.{HasTried, IsFull, IsListedAt, IsOpen, OnTried, RulesOut}
use Rattle.duty_pricing.specs.declared.tried.Tried.{Tried}
use Rattle.duty_pricing.proofs.Ruling.{not-full, ruled-tried}
use Rattle.duty_pricing.proofs.Listing.{five-lengths}
use Rattle.duty_pricing.proofs.Going.{goes-itself, goes-further, tried-stays, at-low, plain-listed}
use Rattle.duty_pricing.proofs.stores.LabelStore.try_plain.Goals as goal

pub loop-off-init : goal.loop-off-init
loop-off-init c = record {
  open_still = c.requires.open;
  on = goes-itself c.args.asked.now c.args.number c.args.from.now c.args.self.now c.requires.search c.requires.from;
  tried = λ k l. absurd (omega arith);
}

pub plain_stay-stay-requires-clause-at : goal.plain_stay-stay-requires-clause-at
plain_stay-stay-requires-clause-at c =
    at-low c.args.asked.now c.args.self.now c.args.number c.args.from.now c.requires.asked c.requires.search c.requires.from

pub try_step-tried-requires-clause-listed : goal.try_step-tried-requires-clause-listed
try_step-tried-requires-clause-listed c =
    subst (λ (s : Stay). IsListedAt c.args.asked.now c.loop-off.self c.args.number (record { stay = s; act = c.args.act }))
    (sym c.plain_stay-stay.ensures)
    (plain-listed c.args.asked.now c.loop-off.self c.args.number c.args.from.now c.requires.asked c.loop-off.invariant.on.search c.loop-off.invariant.on.still
    _ c.args.act)

pub returns-then-is_full-clause-on : goal.returns-then-is_full-clause-on
returns-then-is_full-clause-on c =
    goes-further c.args.asked.now c.args.number c.args.from.now c.args.self.now c.loop-off.self c.try_step-tried.new.self c.loop-off.invariant.on (record { search = c.try_step-tried.ensures.search; still = c.try_step-tried.ensures.from; grows = c.try_step-tried.ensures.grows })

-- there was room
done : (c : goal.Else-is_full) → IsOpen c.args.asked.now c.try_step-tried.new.seat c.try_step-tried.new.self
    × HasTried c.args.asked.now c.try_step-tried.new.self c.args.number (record { stay = c.plain_stay-stay.result; act = c.args.act })
done c =
    not-full _ c.try_step-tried.result c.try_step-tried.ensures.answer
    (λ e. let t = c.is_full.ensures.1 e in let f = c.if-is_full.false in clash c.is_full.result t f)
    (λ r. (r.0, ruled-tried c.args.asked.now c.try_step-tried.new.self c.args.number (record { stay = c.plain_stay-stay.result; act = c.args.act }) r.1))
  where
    clash : (b : Bool) → b ≡ true → b ≡ false → ⊥
    clash b t f = cc

pub returns-then-is_full-clause-full : goal.returns-then-is_full-clause-full
returns-then-is_full-clause-full c = λ _.
    let e = c.is_full.ensures.0 c.if-is_full.true in
    subst (λ (t : Tried). OnTried t (IsFull c.args.asked.now c.try_step-tried.new.seat c.try_step-tried.new.self)
    (IsOpen c.args.asked.now c.try_step-tried.new.seat c.try_step-tried.new.self
    × HasTried c.args.asked.now c.try_step-tried.new.self c.args.number (record { stay = c.plain_stay-stay.result; act = c.args.act }))
    (IsOpen c.args.asked.now c.try_step-tried.new.seat c.try_step-tried.new.self
    × RulesOut c.args.asked.now c.try_step-tried.new.self c.args.number (record { stay = c.plain_stay-stay.result; act = c.args.act }))) e
    c.try_step-tried.ensures.answer

pub loop-off-preserved : goal.loop-off-preserved
loop-off-preserved c = record {
  open_still = (done c).0;
  on = goes-further c.args.asked.now c.args.number c.args.from.now c.args.self.now c.loop-off.self c.try_step-tried.new.self c.loop-off.invariant.on (record { search = c.try_step-tried.ensures.search; still = c.try_step-tried.ensures.from; grows = c.try_step-tried.ensures.grows });
  tried = below_more _ _
      (λ k l. tried-stays c.args.asked.now c.args.number c.args.from.now c.loop-off.self c.try_step-tried.new.self _ c.loop-off.invariant.on.still c.try_step-tried.ensures.grows
      (c.loop-off.invariant.tried k l))
      (subst (λ (s : Stay). HasTried c.args.asked.now c.try_step-tried.new.self c.args.number (record { stay = s; act = c.args.act })) c.plain_stay-stay.ensures (done c).1);
}

pub returns-clause-tried : goal.returns-clause-tried
returns-clause-tried c = λ _ off h.
    five-lengths (λ (o : ℕ). HasTried c.args.asked.now c.loop-off.self c.args.number (record { stay = plain_stay c.args.asked.now.case.now.week c.args.from.now.clock.at c.args.act o; act = c.args.act })) off h (c.loop-off.invariant.tried 0 (omega arith)) (c.loop-off.invariant.tried 1 (omega arith))
    (c.loop-off.invariant.tried 2 (omega arith)) (c.loop-off.invariant.tried 3 (omega arith)) (c.loop-off.invariant.tried 4 (omega arith))
