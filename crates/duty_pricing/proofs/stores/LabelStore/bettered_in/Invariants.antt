-- The slots of the cell past the link do not better the label, but for those before `from`.
use Rattle.std.proofs.Common.{◌≤◌}
use Rattle.dominance.specs.Reaching.{DominatesWithin}
use Rattle.duty_pricing.specs.Slots.{cell_of}
use Rattle.duty_pricing.proofs.Links.{HasWalked}
use Rattle.duty_pricing.proofs.stores.LabelStore.bettered_in.Given as goal

abbrev pub invariant-loop-link : goal.invariant-loop-link
invariant-loop-link l =
    HasWalked cell_of l.self.slots l.cell l.link (λ n slot. l.from ≤ n → DominatesWithin slot.label l.label l.forced l.reach → ⊥)

abbrev pub decreases-loop-link : goal.decreases-loop-link
decreases-loop-link l = l.link
