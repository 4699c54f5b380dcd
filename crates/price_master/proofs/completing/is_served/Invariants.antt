use Rattle.std.proofs.Common.{◌≡◌, ℕ, ◌<◌, false, Some, slice_get}
use Rattle.duty_plan.specs.declared.duties.Duty.{Duty}
use Rattle.duty_plan.specs.PartialDuties.{serves}
use Rattle.duty_plan.specs.Duties.{partial_of}
use Rattle.price_master.proofs.completing.is_served.Given as goal

abbrev pub invariant-loop-duty : goal.invariant-loop-duty
invariant-loop-duty l = (k : ℕ) (d : Duty) → k < l.duty-index → slice_get l.duties k ≡ Some d → serves l.order (partial_of d) ≡ false
