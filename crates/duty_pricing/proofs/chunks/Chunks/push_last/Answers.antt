-- The last chunk has one slot more, or is full as all are.
use Rattle.std.proofs.Common.{◌%◌, ◌+◌, ◌/◌, List, [], ◌∷◌, ◌++◌, length, ap, sym, ◌∙◌, subst, arith}
use Rattle.duty_pricing.specs.declared.slots.Slot.{Slot}
use Rattle.duty_pricing.specs.Chunking.{AreFilled, joined}
use Rattle.duty_pricing.proofs.Elements.{length-push}
use Rattle.duty_pricing.proofs.Chunking.{full-row}
use Rattle.duty_pricing.proofs.Filling.{joined-most, pushed-last}
use Rattle.duty_pricing.proofs.chunks.Chunks.push_last.Goals as goal

pub returns-then-not-has_pushed-clause-full : goal.returns-then-not-has_pushed-clause-full
returns-then-not-has_pushed-clause-full c = λ _.
    let f : AreFilled (c.pop.new.self.items ++ c.in-Some.last ∷ []) = subst (λ (xs : List (List Slot)). AreFilled xs) c.in-Some.ensures.items c.self.invariant.0 in
    ap (λ (xs : List Slot). length xs % 1024) ((sym c.self.view_is) ∙ ap (λ (xs : List (List Slot)). joined xs) c.in-Some.ensures.items)
    ∙ full-row c.pop.new.self.items c.in-Some.last f (c.has_pushed.ensures.full c.if-not-has_pushed.true)

pub overflow_add-self : goal.overflow_add-self
overflow_add-self c =
    let most = joined-most c.self.inside.chunks.items c.self.invariant.0 in
    let few = c.self.invariant.2 in
    let count = c.self.invariant.3 in omega arith

pub invariant_of-self-2 : goal.invariant_of-self-2
invariant_of-self-2 c =
    let p = pushed-last c.pop.new.self.items c.in-Some.last c.has_pushed.new.chunk c.args.slot c.self.inside.chunks.items c.push_reserved-2.new.self.items
    c.in-Some.ensures.items c.push_reserved-2.ensures.items (c.has_pushed.ensures.pushed c.if-not-has_pushed.false)
    (c.has_pushed.ensures.room c.if-not-has_pushed.false) c.self.invariant.0 c.self.invariant.2 in
    let room = c.self.invariant.1 in
    let count = c.self.invariant.3 in
    let more = ap (λ (xs : List Slot). length xs) p.2 in
    let one = length-push (joined c.self.inside.chunks.items) c.args.slot in (
      p.0,
      omega (arith, room, c.push_reserved-2.ensures.capacity, c.in-Some.ensures.capacity),
      p.1,
      omega arith,
    )

pub returns-clause-pushed : goal.returns-clause-pushed
returns-clause-pushed c = λ _.
    let p = pushed-last c.pop.new.self.items c.in-Some.last c.has_pushed.new.chunk c.args.slot c.self.inside.chunks.items c.push_reserved-2.new.self.items
    c.in-Some.ensures.items c.push_reserved-2.ensures.items (c.has_pushed.ensures.pushed c.if-not-has_pushed.false)
    (c.has_pushed.ensures.room c.if-not-has_pushed.false) c.self.invariant.0 c.self.invariant.2 in
    p.2 ∙ ap (λ (xs : List Slot). xs ++ c.args.slot ∷ []) c.self.view_is

pub returns-clause-row : goal.returns-clause-row
returns-clause-row c = λ _.
    let p = pushed-last c.pop.new.self.items c.in-Some.last c.has_pushed.new.chunk c.args.slot c.self.inside.chunks.items c.push_reserved-2.new.self.items
    c.in-Some.ensures.items c.push_reserved-2.ensures.items (c.has_pushed.ensures.pushed c.if-not-has_pushed.false)
    (c.has_pushed.ensures.room c.if-not-has_pushed.false) c.self.invariant.0 c.self.invariant.2 in
    p.3 ∙ ap (λ (xs : List Slot). (length xs + 1023) / 1024) c.self.view_is
