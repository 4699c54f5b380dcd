-- Without the last chunk.
use Rattle.std.proofs.Common.{List, length, ap, arith}
use Rattle.duty_pricing.specs.declared.slots.Slot.{Slot}
use Rattle.duty_pricing.proofs.Filling.{popped}
use Rattle.duty_pricing.proofs.chunks.Chunks.pop.Goals as goal

pub invariant_of-self-2 : goal.invariant_of-self-2
invariant_of-self-2 c =
    let p = popped c.pop.new.self.items c.in_ok-chunk.chunk c.self.inside.chunks.items c.in_ok-chunk.ensures.items c.self.invariant.0 in
    let room = c.self.invariant.1 in
    let few = c.self.invariant.2 in
    let count = c.self.invariant.3 in
    let less = p.1 in
    let shorter = p.4 in
    (p.0, omega (arith, room, c.in_ok-chunk.ensures.capacity), omega arith, omega (arith, c.len.ensures.count))

pub returns-clause-some : goal.returns-clause-some
returns-clause-some c =
    let p = popped c.pop.new.self.items c.in_ok-chunk.chunk c.self.inside.chunks.items c.in_ok-chunk.ensures.items c.self.invariant.0 in
    let same = ap (λ (xs : List Slot). length xs) c.self.view_is in
    let lower = p.2 in
    let rows = p.3 in (omega arith, omega arith)
