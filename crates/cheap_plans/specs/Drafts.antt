-- A plan in the making, and what its drivers may still be given.
use Rattle.std.specs.Prelude.{◌≡◌, ℕ, length, Option, IfSome}
use Rattle.duty_plan.specs.declared.duties.Duty.{Duty}
use Rattle.duty_plan.specs.declared.plans.Case.{Case}
use Rattle.duty_plan.specs.Duties.{IsLawful}
use Rattle.cheap_plans.specs.declared.drafts.Draft.{Draft}

-- a draft of the case: for each driver a duty, and whether the driver is freed
pub record IsDraft (case : Case) (draft : Draft) : Type 0 where
  pub duties : length draft.duties ≡ length case.week.drivers
  pub freed : length draft.freed ≡ length case.week.drivers

-- a guess is a lawful duty of the driver, or none
abbrev pub IsLawfulGuess : Case → ℕ → Option Duty → Type 0
IsLawfulGuess case driver guess = IfSome guess (IsLawful case driver)
