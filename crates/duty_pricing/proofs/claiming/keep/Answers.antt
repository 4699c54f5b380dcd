-- A label more in the last chunk, or in a chunk that was claimed.
use Rattle.std.proofs.Common.{◌≡◌, ℕ, List, [], ◌∷◌, ◌++◌, length, ap, sym, subst, ◌∙◌, arith}
use Rattle.duty_pricing.specs.declared.slots.Slot.{Slot}
use Rattle.duty_pricing.specs.Holding.{IsFullSeat, IsOpenSeat}
use Rattle.duty_pricing.proofs.Elements.{length-push}
use Rattle.duty_pricing.proofs.Holding.{open-kept, open-claimed, full-claimed}
use Rattle.duty_pricing.proofs.claiming.keep.Goals as goal

pub returns-then-push_last-clause-open : goal.returns-then-push_last-clause-open
returns-then-push_last-clause-open c = λ _.
    open-kept c.args.round.now c.args.seat.now c.args.numbers.now (length c.args.slots.now) c.requires.open (length c.push_last.new.self)
    (c.push_last.ensures.row c.if-push_last.true)

pub returns-in-Full-clause-full : goal.returns-in-Full-clause-full
returns-in-Full-clause-full c = λ _.
    let a = c.in-Full.ensures.answer in
    subst (λ (xs : List Slot). IsFullSeat c.args.round.now c.claim.new.self c.args.numbers.now (length xs))
    (sym (c.push_last.ensures.unchanged c.if-push_last.false))
    (full-claimed c.args.round.now c.args.seat.now c.args.numbers.now (length c.args.slots.now) c.requires.open c.claim.new.self a.0 c.claim.ensures.name a.1.0 a.1.1
    (c.push_last.ensures.full c.if-push_last.false) a.2.0 a.2.1)

pub returns-in-Chunk-clause-open : goal.returns-in-Chunk-clause-open
returns-in-Chunk-clause-open c = λ _.
    let a = c.in-Chunk.ensures.answer in
    let same = ap (λ (xs : List Slot). length xs) (c.push_last.ensures.unchanged c.if-push_last.false) in
    let more = ap (λ (xs : List Slot). length xs) c.push_new.ensures ∙ length-push c.push_last.new.self c.args.slot in
    let numbers : c.push.new.self ≡ c.args.numbers.now ++ a.0 ∷ [] = c.push.ensures ∙ ap (λ (n : ℕ). c.args.numbers.now ++ n ∷ []) a.2.1 in
    subst (λ (xs : List ℕ). IsOpenSeat c.args.round.now c.claim.new.self xs (length c.push_new.new.self)) (sym numbers)
    (open-claimed c.args.round.now c.args.seat.now c.args.numbers.now (length c.args.slots.now) c.requires.open c.claim.new.self a.0 c.claim.ensures.name a.1.0 a.1.1
    (c.push_last.ensures.full c.if-push_last.false) a.2.0 a.2.3 (length c.push_new.new.self) (omega arith))
