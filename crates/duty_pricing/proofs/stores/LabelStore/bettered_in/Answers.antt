-- A walk down the cell's slots.
use Rattle.std.proofs.Common.{◌-◌, ◌<◌, ◌≤◌, refl, sym, arith}
use Rattle.std.proofs.lemmas.List.{get_or_read}
use Rattle.dominance.specs.Reaching.{DominatesWithin}
use Rattle.duty_pricing.specs.Slots.{cell_of}
use Rattle.duty_pricing.proofs.Links.{HasWalked, walk-begins, walk-down}
use Rattle.duty_pricing.proofs.stores.LabelStore.bettered_in.Goals as goal

pub loop-link-init : goal.loop-link-init
loop-link-init c =
    walk-begins cell_of (λ slot. slot.same_cell) c.args.self.now.cells.items c.args.self.now.slots c.args.cell c.index-link.result.now
    _ c.requires.chained.by_cell c.requires.cell
    (get_or_read c.args.self.now.cells.items _ _ c.requires.cell c.index-link.ensures 0)

-- one slot further down
walked : (c : goal.Else-better_within) → HasWalked cell_of c.args.self.now.slots c.args.cell c.in-Some.slot.now.same_cell
    (λ n slot. c.args.from ≤ n → DominatesWithin slot.label c.args.label.now c.args.forced c.args.reach → ⊥) × (c.in-Some.slot.now.same_cell < c.loop-link.link)
walked c =
    let worse : c.args.from ≤ c.loop-link.link - 1 → DominatesWithin c.in-Some.slot.now.label c.args.label.now c.args.forced c.args.reach → ⊥ =
    (λ from better. let h = c.better_within.ensures.1 better in let f = c.if-better_within.false in cc) in
    walk-down cell_of (λ slot. slot.same_cell) c.args.self.now.cells.items c.args.self.now.slots c.args.cell c.loop-link.link
    c.in-Some.slot.now.same_cell c.in-Some.slot.now (λ n slot. c.args.from ≤ n → DominatesWithin slot.label c.args.label.now c.args.forced c.args.reach → ⊥)
    c.requires.chained.by_cell c.loop-link.invariant (omega arith) (sym c.in-Some.ensures) worse refl

pub loop-link-smaller : goal.loop-link-smaller
loop-link-smaller c = (walked c).1

pub loop-link-preserved : goal.loop-link-preserved
loop-link-preserved c = (walked c).0
