-- The duties of a whole round's plans.
use Rattle.std.specs.Prelude.{◌≡◌, ℕ, List, length, ℤ, Some, slice_get}
use Rattle.duty_plan.specs.declared.duties.Duty.{Duty}
use Rattle.duty_plan.specs.declared.plans.Case.{Case}
use Rattle.duty_plan.specs.declared.pricing.Priced.{Priced}
use Rattle.duty_plan.specs.declared.pricing.Priced.TheVariants.{Least}
use Rattle.duty_plan.specs.Duties.{IsLawful}
use Rattle.price_master.specs.declared.pooling.Pooled.{Pooled}
use Rattle.price_master.specs.Pools.{IsPooled}

-- the duties of whole answers
pub record AreDutiesOf (answers : List Priced) (duties : List Duty) : Type 0 where
  pub size : length duties ≡ length answers
  pub each : (k : ℕ) (value : ℤ) (duty : Duty) → slice_get answers k ≡ Some (Least value duty) → slice_get duties k ≡ Some duty

-- each duty of the answers is lawful for its driver
abbrev pub AreLawful : Case → List Priced → Type 0
AreLawful case answers = (driver : ℕ) (value : ℤ) (duty : Duty) → slice_get answers driver ≡ Some (Least value duty) → IsLawful case driver duty

-- each duty of the answers is in the pool
abbrev pub ArePooled : List (List Pooled) → List Priced → Type 0
ArePooled pool answers = (driver : ℕ) (value : ℤ) (duty : Duty) → slice_get answers driver ≡ Some (Least value duty) → IsPooled pool driver duty
