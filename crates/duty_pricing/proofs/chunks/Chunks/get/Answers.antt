-- Number n is place n % 1024 of chunk n / 1024.
use Rattle.std.proofs.Common.{List, slice_get, ap, sym, ◌∙◌}
use Rattle.duty_pricing.specs.declared.slots.Slot.{Slot}
use Rattle.duty_pricing.proofs.Chunking.{get-some, get-past-all}
use Rattle.duty_pricing.proofs.chunks.Chunks.get.Goals as goal

pub returns-in-Some : goal.returns-in-Some
returns-in-Some c =
    c.get-in-Some.ensures
    ∙ sym (ap (λ (s : List Slot). slice_get s c.args.number) (sym c.self.view_is)
    ∙ get-some c.self.inside.chunks.items c.deref.result.now c.args.number c.in-Some.chunk.now c.self.invariant.0 c.deref.ensures.value (c.in-Some.ensures.lookup.3.0, c.in-Some.ensures.lookup.1))

pub returns-in-None : goal.returns-in-None
returns-in-None c =
    sym (ap (λ (s : List Slot). slice_get s c.args.number) (sym c.self.view_is)
    ∙ get-past-all c.self.inside.chunks.items c.deref.result.now c.args.number c.self.invariant.0 c.deref.ensures.value c.in-None.ensures.lookup.3)
