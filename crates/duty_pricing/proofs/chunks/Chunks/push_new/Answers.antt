-- A new chunk follows full ones.
use Rattle.std.proofs.Common.{◌%◌, ◌<◌, List, [], ◌∷◌, ◌++◌, length, ap, sym, ◌∙◌, subst, arith}
use Rattle.duty_pricing.specs.declared.slots.Slot.{Slot}
use Rattle.duty_pricing.specs.Chunking.{joined}
use Rattle.duty_pricing.proofs.Elements.{length-push}
use Rattle.duty_pricing.proofs.Filling.{one-pushed, pushed-new}
use Rattle.duty_pricing.proofs.Chunking.{row-length}
use Rattle.duty_pricing.proofs.chunks.Chunks.push_new.Goals as goal

pub push_reserved-requires : goal.push_reserved-requires
push_reserved-requires c =
    let rows = row-length c.self.inside.chunks.items c.self.invariant.0 in
    let same = ap (λ (xs : List Slot). length xs) c.self.view_is in
    let room = c.self.invariant.1 in
    omega (arith, rows, same, room, c.requires.full, c.requires.room, c.self.inside.chunks.ok.0)

pub invariant_of-self : goal.invariant_of-self
invariant_of-self c =
    let p = pushed-new c.args.slot c.self.inside.chunks.items c.push_reserved.new.self.items
    (c.push_reserved.ensures.items ∙ ap (λ (l : List Slot). c.self.inside.chunks.items ++ l ∷ []) (one-pushed c.args.chunk c.has_pushed.new.chunk c.args.slot c.has_pushed.result c.requires.empty c.has_pushed.ensures.pushed c.has_pushed.ensures.full)) c.self.invariant.0
    (ap (λ (xs : List Slot). length xs % 1024) c.self.view_is ∙ c.requires.full)
    (subst (λ (xs : List Slot). length xs < 2097152) (sym c.self.view_is) c.requires.room) in
    let room = c.self.invariant.1 in
    let count = c.self.invariant.3 in
    let more = ap (λ (xs : List Slot). length xs) p.2 in
    let longer = length-push (joined c.self.inside.chunks.items) c.args.slot in (
      p.0,
      omega (arith, room, c.push_reserved.ensures.capacity),
      p.1,
      omega arith,
    )

pub returns : goal.returns
returns c =
    let p = pushed-new c.args.slot c.self.inside.chunks.items c.push_reserved.new.self.items
    (c.push_reserved.ensures.items ∙ ap (λ (l : List Slot). c.self.inside.chunks.items ++ l ∷ []) (one-pushed c.args.chunk c.has_pushed.new.chunk c.args.slot c.has_pushed.result c.requires.empty c.has_pushed.ensures.pushed c.has_pushed.ensures.full)) c.self.invariant.0
    (ap (λ (xs : List Slot). length xs % 1024) c.self.view_is ∙ c.requires.full)
    (subst (λ (xs : List Slot). length xs < 2097152) (sym c.self.view_is) c.requires.room) in
    p.2 ∙ ap (λ (xs : List Slot). xs ++ c.args.slot ∷ []) c.self.view_is
