-- The twin who stands for a driver.
use Rattle.std.specs.Prelude.{◌≡◌, ◌≤◌, ◌<◌, ℕ, List, slice_index}
use Rattle.duty_plan.specs.declared.plans.Case.{Case}
use Rattle.duty_plan.specs.declared.deciding.Pairs.{Pairs}
use Rattle.duty_plan.specs.Twins.{AreTwins}

-- a twin of the driver, himself or an earlier one who stands for himself
pub record IsClassOf (case : Case) (pairs : Pairs) (classes : List ℕ) (driver class : ℕ) : Type 0 where
  pub earlier : class ≤ driver
  pub own : class < driver → slice_index classes class ≡ class
  pub twin : AreTwins case pairs class driver
