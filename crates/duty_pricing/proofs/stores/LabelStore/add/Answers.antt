-- The label is stored, and learnt where it is that of a duty inside.
use Rattle.std.proofs.Common.{Option, sym, subst}
use Rattle.std.specs.Prelude.{ℤ}
use Rattle.duty_label.proofs.Values.{fits}
use Rattle.duty_pricing.proofs.Fields.{small}
use Rattle.duty_label.specs.Pruning.{Knows}
use Rattle.duty_pricing.specs.Searching.{Learns, entry_at}
use Rattle.duty_pricing.proofs.Learning.{search-stored, search-learned, added-grows, learned-grows}
use Rattle.duty_pricing.proofs.Searching.{grows-same}
use Rattle.duty_pricing.proofs.Trying.{added-minute, added-place}
use Rattle.duty_pricing.proofs.stores.LabelStore.add.Goals as goal

pub store-requires-clause-room : goal.store-requires-clause-room
store-requires-clause-room c = record { minutes = c.requires.may.1.minutes_all; cells = c.requires.may.1.cells_all }

pub store-requires-clause-minute : goal.store-requires-clause-minute
store-requires-clause-minute c =
    added-minute c.args.asked.now c.requires.may.0 c.args.self.now c.args.number c.args.step c.args.label.now c.requires.asked c.requires.may.1
    c.requires.may.2

pub store-requires-clause-place : goal.store-requires-clause-place
store-requires-clause-place c =
    added-place c.args.asked.now c.requires.may.0 c.args.self.now c.args.number c.args.step c.args.label.now c.requires.asked c.requires.may.1
    c.requires.may.2

pub returns-then-is_inside-clause-search : goal.returns-then-is_inside-clause-search
returns-then-is_inside-clause-search c = λ minute s m.
    let partial = (entry_at c.args.self.now c.args.number c.args.step c.args.label.now).partial in
    let tiny = small c.args.asked.now.case.now c.args.asked.now.driver c.args.asked.now.prices.now c.args.label.now c.requires.asked.is_case
    c.requires.asked.are_prices (record { partial = partial; has_label = record { lawful = m.is_entry.lawful; label_of = m.is_entry.label } }) in
    let learnt = subst (λ (v : ℤ). Learns c.store.new.self c.learn.new.self v c.len-last.result) (fits c.args.label.now.value tiny) c.learn.ensures in
    let h = c.is_inside.ensures.inside c.if-is_inside.true partial (record { lawful = m.is_entry.lawful; label_of = m.is_entry.label }) m.is_entry.unbarred in
    search-learned c.args.asked.now minute c.args.self.now c.store.new.self c.learn.new.self c.args.number c.args.step c.args.label.now
    c.len-last.result s m (c.store.ensures.stored c.if-not-store.false) c.store.ensures.chained c.store.ensures.size.0 c.store.ensures.size.1
    c.store.ensures.known.0 c.store.ensures.known.1 c.len-last.ensures.count learnt h.0 h.1

pub returns-else-is_inside-clause-search : goal.returns-else-is_inside-clause-search
returns-else-is_inside-clause-search c = λ minute s m.
    let partial = (entry_at c.args.self.now c.args.number c.args.step c.args.label.now).partial in
    search-stored c.args.asked.now minute c.args.self.now c.store.new.self c.args.number c.args.step c.args.label.now s m
    (c.store.ensures.stored c.if-not-store.false) c.store.ensures.chained c.store.ensures.size.0 c.store.ensures.size.1 c.store.ensures.known.0
    c.store.ensures.known.1
    (c.is_inside.ensures.outside c.if-is_inside.false partial (record { lawful = m.is_entry.lawful; label_of = m.is_entry.label }))

pub returns-then-is_inside-clause-grows : goal.returns-then-is_inside-clause-grows
returns-then-is_inside-clause-grows c = λ minute s m.
    learned-grows minute c.args.self.now c.store.new.self c.learn.new.self c.args.number c.args.step c.args.label.now _ c.len-last.result
    (c.store.ensures.stored c.if-not-store.false) c.store.ensures.known.0 c.learn.ensures m.later

pub returns-else-is_inside-clause-grows : goal.returns-else-is_inside-clause-grows
returns-else-is_inside-clause-grows c = λ minute s m.
    added-grows minute c.args.self.now c.store.new.self c.args.number c.args.step c.args.label.now (c.store.ensures.stored c.if-not-store.false) m.later
    (λ v l. subst (λ (o : Option ℤ). Knows o v) (sym c.store.ensures.known.0) l)

pub returns-then-not-store-clause-grows : goal.returns-then-not-store-clause-grows
returns-then-not-store-clause-grows c = λ minute s m.
    grows-same minute c.args.self.now c.store.new.self (c.store.ensures.unchanged c.if-not-store.true) c.store.ensures.known.0
