-- The duties that places tell in drivers' lists.
use Rattle.std.specs.Prelude.{◌≡◌, ℕ, ◌≤◌, List, [], length, Some, slice_get, slice_index}
use Rattle.duty_plan.specs.declared.duties.Duty.{Duty}
use Rattle.price_master.specs.declared.pooling.Pooled.{Pooled}

-- the duty at that place, or past the end the empty one
pub record IsDutyAt (pooled : List Pooled) (place : ℕ) (duty : Duty) : Type 0 where
  pub here : (entry : Pooled) → slice_get pooled place ≡ Some entry → duty ≡ entry.duty
  pub past : length pooled ≤ place → duty.steps ≡ []

-- one such duty for each driver
pub record AreDutiesAt (pool : List (List Pooled)) (places : List ℕ) (duties : List Duty) : Type 0 where
  pub drivers : length duties ≡ length pool
  pub each : (driver : ℕ) (pooled : List Pooled) (duty : Duty) → slice_get pool driver ≡ Some pooled → slice_get duties driver ≡ Some duty →
      IsDutyAt pooled (slice_index places driver) duty
