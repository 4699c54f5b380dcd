-- The duties of a plan, one driver after another.
use Rattle.std.proofs.Common.{◌≡◌, ℕ, ◌<◌, List, length, ℤ, Some, slice_get}
use Rattle.duty_plan.specs.declared.duties.Duty.{Duty}
use Rattle.duty_plan.specs.declared.pricing.Priced.{Priced}
use Rattle.duty_plan.specs.declared.pricing.Priced.TheVariants.{Least}

-- of the first n answers
pub record AreDutiesSoFar (answers : List Priced) (n : ℕ) (duties : List Duty) : Type 0 where
  pub size : length duties ≡ n
  pub each : (k : ℕ) (value : ℤ) (duty : Duty) → k < n → slice_get answers k ≡ Some (Least value duty) → slice_get duties k ≡ Some duty
