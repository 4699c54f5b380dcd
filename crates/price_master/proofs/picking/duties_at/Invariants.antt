use Rattle.std.proofs.Common.{◌≡◌, ℕ, List, length, get_or, Some, slice_get}
use Rattle.duty_plan.specs.declared.duties.Duty.{Duty}
use Rattle.price_master.specs.declared.pooling.Pooled.{Pooled}
use Rattle.price_master.specs.Placing.{IsDutyAt}
use Rattle.price_master.proofs.picking.duties_at.Given as goal

abbrev pub invariant-loop-driver : goal.invariant-loop-driver
invariant-loop-driver l = record {
  as_many : length l.duties ≡ l.driver;
  each : (d : ℕ) (pooled : List Pooled) (duty : Duty) → slice_get l.pool d ≡ Some pooled → slice_get l.duties d ≡ Some duty →
      IsDutyAt pooled (get_or l.places d 0) duty;
}
