-- The rests until the turns before the first are too short; past one that is ruled out, or past the last start, none need be tried.
use Rattle.std.proofs.Common.{◌⊎◌, inl, inr, ◌<◌, ◌≤◌, ◌*◌, ℕ, below_more, sym, subst, arith}
use Rattle.std.proofs.lemmas.Bool.{cases_lt}
use Rattle.hours_rules.specs.declared.clocks.Stay.{Stay}
use Rattle.duty_pricing.specs.Listing.{rest_stay}
use Rattle.duty_pricing.specs.Searching.{HasTried, IsListedAt, RulesOut}
use Rattle.duty_pricing.proofs.Going.{goes-itself, goes-further, tried-stays}
use Rattle.duty_pricing.proofs.Ruling.{closed-tried, ends-as, longer-ruled, rest-listed, turn-fits, turns-order}
use Rattle.duty_pricing.proofs.Resting.{short-tried}
use Rattle.duty_pricing.proofs.stores.LabelStore.try_rests.Goals as goal

pub loop-turn-init : goal.loop-turn-init
loop-turn-init c = record {
  open_still = c.requires.open;
  on = goes-itself c.args.asked.now c.args.number c.args.from.now c.args.self.now c.requires.search c.requires.from;
  tried = λ turn l h.
      short-tried c.args.asked.now c.args.self.now c.args.number c.args.from.now c.args.kind (turn * c.args.asked.now.case.now.week.grid) c.args.act
      c.requires.asked c.requires.search c.requires.from c.requires.rest (c.first_turn-first.ensures turn l h);
}

pub try_step-requires-clause-listed : goal.try_step-requires-clause-listed
try_step-requires-clause-listed c =
    subst (λ (s : Stay). IsListedAt c.args.asked.now c.loop-turn.self c.args.number (record { stay = s; act = c.args.act })) (sym c.rest_stay-stay.ensures)
    (λ entry h. rest-listed c.args.asked.now.case.now.week c.args.from.now.clock.at (c.loop-turn.turn * c.args.asked.now.case.now.week.grid) c.args.kind
    c.args.act entry.partial c.requires.rest)

pub returns-in-Full-clause-on : goal.returns-in-Full-clause-on
returns-in-Full-clause-on c =
    goes-further c.args.asked.now c.args.number c.args.from.now c.args.self.now c.loop-turn.self c.try_step.new.self c.loop-turn.invariant.on
    (record { search = c.try_step.ensures.search; still = c.try_step.ensures.from; grows = c.try_step.ensures.grows })

pub returns-in-RuledOut-clause-on : goal.returns-in-RuledOut-clause-on
returns-in-RuledOut-clause-on c =
    goes-further c.args.asked.now c.args.number c.args.from.now c.args.self.now c.loop-turn.self c.try_step.new.self c.loop-turn.invariant.on
    (record { search = c.try_step.ensures.search; still = c.try_step.ensures.from; grows = c.try_step.ensures.grows })

pub returns-in-RuledOut-clause-open : goal.returns-in-RuledOut-clause-open
returns-in-RuledOut-clause-open c = λ _. c.in-RuledOut.ensures.answer.0

pub returns-in-RuledOut-clause-tried : goal.returns-in-RuledOut-clause-tried
returns-in-RuledOut-clause-tried c = λ _ turn h l. by_turn turn h (cases_lt turn c.loop-turn.turn)
  where
    ruled : RulesOut c.args.asked.now c.try_step.new.self c.args.number
        (record { stay = rest_stay c.args.from.now.clock.at c.args.kind (c.loop-turn.turn * c.args.asked.now.case.now.week.grid); act = c.args.act })
    ruled = subst (λ (s : Stay). RulesOut c.args.asked.now c.try_step.new.self c.args.number (record { stay = s; act = c.args.act }))
        c.rest_stay-stay.ensures c.in-RuledOut.ensures.answer.1

    by_turn : (turn : ℕ) → c.args.from.now.clock.at ≤ turn * c.args.asked.now.case.now.week.grid →
        (turn < c.loop-turn.turn) ⊎ (c.loop-turn.turn ≤ turn) → HasTried c.args.asked.now c.try_step.new.self c.args.number
        (record { stay = rest_stay c.args.from.now.clock.at c.args.kind (turn * c.args.asked.now.case.now.week.grid); act = c.args.act })
    by_turn turn h (inl low) =
        tried-stays c.args.asked.now c.args.number c.args.from.now c.loop-turn.self c.try_step.new.self _ c.loop-turn.invariant.on.still
        c.try_step.ensures.grows (c.loop-turn.invariant.tried turn low h)
    by_turn turn h (inr high) =
        longer-ruled c.args.asked.now c.try_step.new.self c.args.number c.args.from.now.clock.at (c.loop-turn.turn * c.args.asked.now.case.now.week.grid)
        (turn * c.args.asked.now.case.now.week.grid) c.args.kind c.args.act (turns-order c.loop-turn.turn turn c.args.asked.now.case.now.week.grid c.requires.asked.is_case.week.grid high) ruled

pub loop-turn-preserved : goal.loop-turn-preserved
loop-turn-preserved c = record {
  open_still = c.in-Done.ensures.answer.0;
  on = goes-further c.args.asked.now c.args.number c.args.from.now c.args.self.now c.loop-turn.self c.try_step.new.self c.loop-turn.invariant.on
      (record { search = c.try_step.ensures.search; still = c.try_step.ensures.from; grows = c.try_step.ensures.grows });
  tried = below_more (λ (k : ℕ). c.args.from.now.clock.at ≤ k * c.args.asked.now.case.now.week.grid → HasTried c.args.asked.now c.try_step.new.self c.args.number
      (record { stay = rest_stay c.args.from.now.clock.at c.args.kind (k * c.args.asked.now.case.now.week.grid); act = c.args.act })) _
      (λ k l h. tried-stays c.args.asked.now c.args.number c.args.from.now c.loop-turn.self c.try_step.new.self _ c.loop-turn.invariant.on.still
      c.try_step.ensures.grows (c.loop-turn.invariant.tried k l h))
      (λ _. subst (λ (s : Stay). HasTried c.args.asked.now c.try_step.new.self c.args.number (record { stay = s; act = c.args.act }))
      c.rest_stay-stay.ensures c.in-Done.ensures.answer.1);
}

pub returns-clause-tried : goal.returns-clause-tried
returns-clause-tried c = λ _ turn h l. by_turn turn h l (cases_lt turn c.loop-turn.turn)
  where
    by_turn : (turn : ℕ) → c.args.from.now.clock.at ≤ turn * c.args.asked.now.case.now.week.grid → turn * c.args.asked.now.case.now.week.grid < 10080 →
        (turn < c.loop-turn.turn) ⊎ (c.loop-turn.turn ≤ turn) → HasTried c.args.asked.now c.loop-turn.self c.args.number
        (record { stay = rest_stay c.args.from.now.clock.at c.args.kind (turn * c.args.asked.now.case.now.week.grid); act = c.args.act })
    by_turn turn h l (inl low) = c.loop-turn.invariant.tried turn low h
    by_turn turn h l (inr high) =
        closed-tried c.args.asked.now c.loop-turn.self c.args.number c.args.from.now.clock.at (turn * c.args.asked.now.case.now.week.grid) c.args.kind
        c.args.act (λ entry e. (ends-as c.args.asked.now c.loop-turn.self c.args.number c.args.from.now c.requires.asked c.loop-turn.invariant.on.search
        c.loop-turn.invariant.on.still entry e).0) h
        (c.turns-turn-end.ensures.closed turn (omega (arith, c.loop-turn-test.false, high)) l)

pub overflow_mul-turn : goal.overflow_mul-turn
overflow_mul-turn c =
    let most = c.turns-turn-end.ensures.most in
    let low = turn-fits c.loop-turn.turn c.args.asked.now.case.now.week.grid c.requires.asked.is_case.week.grid (omega (arith, most, c.loop-turn-test.true)) in
    omega arith
