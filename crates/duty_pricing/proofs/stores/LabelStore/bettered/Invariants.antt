-- No slot whose work day began in an hour before betters the label, but for those before `from`.
use Rattle.std.proofs.Common.{◌≡◌, ◌<◌, ◌≤◌, ℕ, Some, slice_get}
use Rattle.dominance.specs.Reaching.{DominatesWithin}
use Rattle.duty_pricing.specs.declared.slots.Slot.{Slot}
use Rattle.duty_pricing.specs.Slots.{day_hour}
use Rattle.duty_pricing.proofs.stores.LabelStore.bettered.Given as goal

abbrev pub invariant-loop-hour : goal.invariant-loop-hour
invariant-loop-hour l = (n : ℕ) (slot : Slot) → l.from ≤ n → slice_get l.self.slots n ≡ Some slot → day_hour slot.label.clock.day_from < l.hour →
    DominatesWithin slot.label l.label l.forced l.reach → ⊥
