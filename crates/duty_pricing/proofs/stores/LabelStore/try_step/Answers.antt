-- A step is no child, ruled out, hopeless, bettered, or stored.
use Rattle.std.proofs.Common.{ℕ, inr, sym, subst, ◌∷◌, refl, arith}
use Rattle.duty_label.specs.Children.{HasLabel}
use Rattle.dominance.specs.Reaching.{DominatesWithin}
use Rattle.duty_pricing.specs.Searching.{MayAdd}
use Rattle.duty_pricing.proofs.Searching.{grows-same, may-still, may-same}
use Rattle.duty_pricing.proofs.Trying.{from-has, from-some, tried-none, tried-spared, tried-bettered, minute-fits, place-fits, ruled-out, may-add, search-days, tried-added}
use Rattle.duty_pricing.proofs.Following.{not-barred}
use Rattle.duty_pricing.proofs.stores.LabelStore.try_step.Goals as goal

pub child-requires-clause-label : goal.child-requires-clause-label
child-requires-clause-label c = from-some c.args.asked.now c.args.self.now c.args.number c.args.from.now c.args.step c.requires.asked c.requires.search c.requires.from

pub returns-in_default-clause-grows : goal.returns-in_default-clause-grows
returns-in_default-clause-grows c = grows-same c.args.from.now.clock.at c.args.self.now c.args.self.now refl refl

pub returns-in_default-clause-answer : goal.returns-in_default-clause-answer
returns-in_default-clause-answer c = (
  c.requires.open,
  tried-none c.args.asked.now c.args.self.now c.args.number c.args.from.now c.args.step c.requires.asked c.requires.search c.requires.from
      (λ m.
      let partial = c.requires.from.entry.partial in
      let h = from-has c.args.asked.now c.args.self.now c.args.number c.args.from.now c.args.step c.requires.asked c.requires.search c.requires.from in
      let ok = (c.in_default.ensures.lawful partial h).1 (not-barred c.args.asked.now.case.now c.args.asked.now.driver c.args.asked.now.pairs.now c.args.step partial m.unbarred, m.lawful) in cc),
)

pub returns-then-is_ruled_out-clause-grows : goal.returns-then-is_ruled_out-clause-grows
returns-then-is_ruled_out-clause-grows c = grows-same c.args.from.now.clock.at c.args.self.now c.args.self.now refl refl

pub returns-then-is_ruled_out-clause-answer : goal.returns-then-is_ruled_out-clause-answer
returns-then-is_ruled_out-clause-answer c =
    let partial = c.requires.from.entry.partial in
    let h = from-has c.args.asked.now c.args.self.now c.args.number c.args.from.now c.args.step c.requires.asked c.requires.search c.requires.from in
    let both = (c.in-Ok.ensures.lawful partial h).0 refl in
    let has : HasLabel c.args.asked.now.case.now c.args.asked.now.driver c.args.asked.now.prices.now (c.args.step ∷ partial) c.in-Ok.label =
    record { lawful = both.1; label_of = c.in-Ok.ensures.label partial h } in (
      c.requires.open,
      ruled-out c.args.asked.now c.args.self.now c.args.number c.args.from.now c.args.step c.requires.asked c.requires.search c.requires.from c.in-Ok.label has
          (λ later s. c.is_ruled_out.ensures c.if-is_ruled_out.true (c.args.step ∷ partial) later has s),
    )

pub returns-then-is_hopeless-clause-grows : goal.returns-then-is_hopeless-clause-grows
returns-then-is_hopeless-clause-grows c = grows-same c.args.from.now.clock.at c.args.self.now c.args.self.now refl refl

pub returns-then-is_hopeless-clause-answer : goal.returns-then-is_hopeless-clause-answer
returns-then-is_hopeless-clause-answer c =
    let partial = c.requires.from.entry.partial in
    let h = from-has c.args.asked.now c.args.self.now c.args.number c.args.from.now c.args.step c.requires.asked c.requires.search c.requires.from in
    let both = (c.in-Ok.ensures.lawful partial h).0 refl in
    let has : HasLabel c.args.asked.now.case.now c.args.asked.now.driver c.args.asked.now.prices.now (c.args.step ∷ partial) c.in-Ok.label =
    record { lawful = both.1; label_of = c.in-Ok.ensures.label partial h } in
    (c.requires.open, tried-spared c.args.asked.now c.args.self.now c.args.number c.args.from.now c.args.step c.requires.asked c.requires.search c.requires.from (inr (c.is_hopeless.ensures.pruned c.if-is_hopeless.true (c.args.step ∷ partial) has)))

pub bettered-requires-clause-place : goal.bettered-requires-clause-place
bettered-requires-clause-place c =
    let partial = c.requires.from.entry.partial in
    let h = from-has c.args.asked.now c.args.self.now c.args.number c.args.from.now c.args.step c.requires.asked c.requires.search c.requires.from in
    let both = (c.in-Ok.ensures.lawful partial h).0 refl in
    let has : HasLabel c.args.asked.now.case.now c.args.asked.now.driver c.args.asked.now.prices.now (c.args.step ∷ partial) c.in-Ok.label =
    record { lawful = both.1; label_of = c.in-Ok.ensures.label partial h } in
    place-fits c.args.asked.now c.args.self.now c.args.number c.args.from.now c.args.step c.requires.asked c.requires.search c.requires.from c.in-Ok.label has

pub bettered-requires-clause-minute : goal.bettered-requires-clause-minute
bettered-requires-clause-minute c =
    let partial = c.requires.from.entry.partial in
    let h = from-has c.args.asked.now c.args.self.now c.args.number c.args.from.now c.args.step c.requires.asked c.requires.search c.requires.from in
    let both = (c.in-Ok.ensures.lawful partial h).0 refl in
    let has : HasLabel c.args.asked.now.case.now c.args.asked.now.driver c.args.asked.now.prices.now (c.args.step ∷ partial) c.in-Ok.label =
    record { lawful = both.1; label_of = c.in-Ok.ensures.label partial h } in
    minute-fits c.args.asked.now c.args.self.now c.args.number c.args.from.now c.args.step c.requires.asked c.requires.search c.requires.from c.in-Ok.label has

pub bettered-requires-clause-days : goal.bettered-requires-clause-days
bettered-requires-clause-days c = search-days c.args.asked.now c.args.from.now.clock.at c.args.self.now c.requires.search

pub returns-then-bettered-clause-grows : goal.returns-then-bettered-clause-grows
returns-then-bettered-clause-grows c = grows-same c.args.from.now.clock.at c.args.self.now c.args.self.now refl refl

pub returns-then-bettered-clause-answer : goal.returns-then-bettered-clause-answer
returns-then-bettered-clause-answer c =
    let partial = c.requires.from.entry.partial in
    let h = from-has c.args.asked.now c.args.self.now c.args.number c.args.from.now c.args.step c.requires.asked c.requires.search c.requires.from in
    let both = (c.in-Ok.ensures.lawful partial h).0 refl in
    let has : HasLabel c.args.asked.now.case.now c.args.asked.now.driver c.args.asked.now.prices.now (c.args.step ∷ partial) c.in-Ok.label =
    record { lawful = both.1; label_of = c.in-Ok.ensures.label partial h } in
    let b = c.bettered.ensures.some c.if-bettered.true in (
      c.requires.open,
      tried-bettered c.args.asked.now c.args.self.now c.args.number c.args.from.now c.args.step c.requires.asked c.requires.search c.requires.from c.in-Ok.label has b.0 b.1 b.2 b.3
          (subst (λ (r : ℕ). DominatesWithin b.1.label c.in-Ok.label c.args.asked.now.forced r) c.reach.ensures b.4),
    )

pub add-requires-clause-may : goal.add-requires-clause-may
add-requires-clause-may c =
    let partial = c.requires.from.entry.partial in
    let h = from-has c.args.asked.now c.args.self.now c.args.number c.args.from.now c.args.step c.requires.asked c.requires.search c.requires.from in
    let both = (c.in-Ok.ensures.lawful partial h).0 refl in
    let has : HasLabel c.args.asked.now.case.now c.args.asked.now.driver c.args.asked.now.prices.now (c.args.step ∷ partial) c.in-Ok.label =
    record { lawful = both.1; label_of = c.in-Ok.ensures.label partial h } in
    let may : MayAdd c.args.asked.now c.args.from.now.clock.at c.args.self.now c.args.number c.args.step c.in-Ok.label =
    may-add c.args.asked.now c.args.self.now c.args.number c.args.from.now c.args.step c.requires.asked c.requires.search c.requires.from c.in-Ok.label
    has both.0 c.requires.listed (λ n slot l h b. c.bettered.ensures.none c.if-bettered.false n slot l h
    (subst (λ (r : ℕ). DominatesWithin slot.label c.in-Ok.label c.args.asked.now.forced r) (sym c.reach.ensures) b)) (c.is_hopeless.ensures.on_time c.if-is_hopeless.false (c.args.step ∷ partial) has)
    (c.is_hopeless.ensures.hopeful c.if-is_hopeless.false (c.args.step ∷ partial) has) in
    (c.args.from.now.clock.at, c.requires.search, may)

pub returns-then-not-add-clause-search : goal.returns-then-not-add-clause-search
returns-then-not-add-clause-search c =
    let partial = c.requires.from.entry.partial in
    let h = from-has c.args.asked.now c.args.self.now c.args.number c.args.from.now c.args.step c.requires.asked c.requires.search c.requires.from in
    let both = (c.in-Ok.ensures.lawful partial h).0 refl in
    let has : HasLabel c.args.asked.now.case.now c.args.asked.now.driver c.args.asked.now.prices.now (c.args.step ∷ partial) c.in-Ok.label =
    record { lawful = both.1; label_of = c.in-Ok.ensures.label partial h } in
    let may : MayAdd c.args.asked.now c.args.from.now.clock.at c.args.self.now c.args.number c.args.step c.in-Ok.label =
    may-add c.args.asked.now c.args.self.now c.args.number c.args.from.now c.args.step c.requires.asked c.requires.search c.requires.from c.in-Ok.label
    has both.0 c.requires.listed (λ n slot l h b. c.bettered.ensures.none c.if-bettered.false n slot l h
    (subst (λ (r : ℕ). DominatesWithin slot.label c.in-Ok.label c.args.asked.now.forced r) (sym c.reach.ensures) b)) (c.is_hopeless.ensures.on_time c.if-is_hopeless.false (c.args.step ∷ partial) has)
    (c.is_hopeless.ensures.hopeful c.if-is_hopeless.false (c.args.step ∷ partial) has) in
    c.add.ensures.search c.args.from.now.clock.at c.requires.search may

pub returns-then-not-add-clause-grows : goal.returns-then-not-add-clause-grows
returns-then-not-add-clause-grows c =
    let partial = c.requires.from.entry.partial in
    let h = from-has c.args.asked.now c.args.self.now c.args.number c.args.from.now c.args.step c.requires.asked c.requires.search c.requires.from in
    let both = (c.in-Ok.ensures.lawful partial h).0 refl in
    let has : HasLabel c.args.asked.now.case.now c.args.asked.now.driver c.args.asked.now.prices.now (c.args.step ∷ partial) c.in-Ok.label =
    record { lawful = both.1; label_of = c.in-Ok.ensures.label partial h } in
    let may : MayAdd c.args.asked.now c.args.from.now.clock.at c.args.self.now c.args.number c.args.step c.in-Ok.label =
    may-add c.args.asked.now c.args.self.now c.args.number c.args.from.now c.args.step c.requires.asked c.requires.search c.requires.from c.in-Ok.label
    has both.0 c.requires.listed (λ n slot l h b. c.bettered.ensures.none c.if-bettered.false n slot l h
    (subst (λ (r : ℕ). DominatesWithin slot.label c.in-Ok.label c.args.asked.now.forced r) (sym c.reach.ensures) b)) (c.is_hopeless.ensures.on_time c.if-is_hopeless.false (c.args.step ∷ partial) has)
    (c.is_hopeless.ensures.hopeful c.if-is_hopeless.false (c.args.step ∷ partial) has) in
    c.add.ensures.grows c.args.from.now.clock.at c.requires.search may

pub returns-then-not-add-clause-from : goal.returns-then-not-add-clause-from
returns-then-not-add-clause-from c =
    may-same c.args.asked.now c.args.self.now c.add.new.self c.args.number c.args.from.now (c.add.ensures.unchanged c.if-not-add.true) c.requires.from

pub returns-clause-search : goal.returns-clause-search
returns-clause-search c =
    let partial = c.requires.from.entry.partial in
    let h = from-has c.args.asked.now c.args.self.now c.args.number c.args.from.now c.args.step c.requires.asked c.requires.search c.requires.from in
    let both = (c.in-Ok.ensures.lawful partial h).0 refl in
    let has : HasLabel c.args.asked.now.case.now c.args.asked.now.driver c.args.asked.now.prices.now (c.args.step ∷ partial) c.in-Ok.label =
    record { lawful = both.1; label_of = c.in-Ok.ensures.label partial h } in
    let may : MayAdd c.args.asked.now c.args.from.now.clock.at c.args.self.now c.args.number c.args.step c.in-Ok.label =
    may-add c.args.asked.now c.args.self.now c.args.number c.args.from.now c.args.step c.requires.asked c.requires.search c.requires.from c.in-Ok.label
    has both.0 c.requires.listed (λ n slot l h b. c.bettered.ensures.none c.if-bettered.false n slot l h
    (subst (λ (r : ℕ). DominatesWithin slot.label c.in-Ok.label c.args.asked.now.forced r) (sym c.reach.ensures) b)) (c.is_hopeless.ensures.on_time c.if-is_hopeless.false (c.args.step ∷ partial) has)
    (c.is_hopeless.ensures.hopeful c.if-is_hopeless.false (c.args.step ∷ partial) has) in
    c.add.ensures.search c.args.from.now.clock.at c.requires.search may

pub returns-clause-grows : goal.returns-clause-grows
returns-clause-grows c =
    let partial = c.requires.from.entry.partial in
    let h = from-has c.args.asked.now c.args.self.now c.args.number c.args.from.now c.args.step c.requires.asked c.requires.search c.requires.from in
    let both = (c.in-Ok.ensures.lawful partial h).0 refl in
    let has : HasLabel c.args.asked.now.case.now c.args.asked.now.driver c.args.asked.now.prices.now (c.args.step ∷ partial) c.in-Ok.label =
    record { lawful = both.1; label_of = c.in-Ok.ensures.label partial h } in
    let may : MayAdd c.args.asked.now c.args.from.now.clock.at c.args.self.now c.args.number c.args.step c.in-Ok.label =
    may-add c.args.asked.now c.args.self.now c.args.number c.args.from.now c.args.step c.requires.asked c.requires.search c.requires.from c.in-Ok.label
    has both.0 c.requires.listed (λ n slot l h b. c.bettered.ensures.none c.if-bettered.false n slot l h
    (subst (λ (r : ℕ). DominatesWithin slot.label c.in-Ok.label c.args.asked.now.forced r) (sym c.reach.ensures) b)) (c.is_hopeless.ensures.on_time c.if-is_hopeless.false (c.args.step ∷ partial) has)
    (c.is_hopeless.ensures.hopeful c.if-is_hopeless.false (c.args.step ∷ partial) has) in
    c.add.ensures.grows c.args.from.now.clock.at c.requires.search may

pub returns-clause-from : goal.returns-clause-from
returns-clause-from c =
    let partial = c.requires.from.entry.partial in
    let h = from-has c.args.asked.now c.args.self.now c.args.number c.args.from.now c.args.step c.requires.asked c.requires.search c.requires.from in
    let both = (c.in-Ok.ensures.lawful partial h).0 refl in
    let has : HasLabel c.args.asked.now.case.now c.args.asked.now.driver c.args.asked.now.prices.now (c.args.step ∷ partial) c.in-Ok.label =
    record { lawful = both.1; label_of = c.in-Ok.ensures.label partial h } in
    let may : MayAdd c.args.asked.now c.args.from.now.clock.at c.args.self.now c.args.number c.args.step c.in-Ok.label =
    may-add c.args.asked.now c.args.self.now c.args.number c.args.from.now c.args.step c.requires.asked c.requires.search c.requires.from c.in-Ok.label
    has both.0 c.requires.listed (λ n slot l h b. c.bettered.ensures.none c.if-bettered.false n slot l h
    (subst (λ (r : ℕ). DominatesWithin slot.label c.in-Ok.label c.args.asked.now.forced r) (sym c.reach.ensures) b)) (c.is_hopeless.ensures.on_time c.if-is_hopeless.false (c.args.step ∷ partial) has)
    (c.is_hopeless.ensures.hopeful c.if-is_hopeless.false (c.args.step ∷ partial) has) in
    may-still c.args.asked.now c.args.from.now.clock.at c.args.self.now c.add.new.self c.args.number c.args.number c.args.step c.args.from.now
    c.in-Ok.label (omega arith) c.requires.from may (c.add.ensures.stored c.if-not-add.false)

pub returns-clause-answer : goal.returns-clause-answer
returns-clause-answer c =
    let partial = c.requires.from.entry.partial in
    let h = from-has c.args.asked.now c.args.self.now c.args.number c.args.from.now c.args.step c.requires.asked c.requires.search c.requires.from in
    let both = (c.in-Ok.ensures.lawful partial h).0 refl in
    let has : HasLabel c.args.asked.now.case.now c.args.asked.now.driver c.args.asked.now.prices.now (c.args.step ∷ partial) c.in-Ok.label =
    record { lawful = both.1; label_of = c.in-Ok.ensures.label partial h } in (
      c.add.ensures.open c.if-not-add.false,
      tried-added c.args.asked.now c.args.self.now c.args.number c.args.from.now c.args.step c.requires.asked c.requires.search c.requires.from c.in-Ok.label has c.add.new.self (c.add.ensures.stored c.if-not-add.false),
    )
