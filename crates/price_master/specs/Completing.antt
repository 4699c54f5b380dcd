-- What a plan's duties leave to be given away.
use Rattle.std.specs.Prelude.{◌≡◌, ℕ, ◌<◌, cond, eqb, List, length}
use Rattle.duty_plan.specs.declared.duties.Duty.{Duty}
use Rattle.duty_plan.specs.declared.plans.Case.{Case}
use Rattle.duty_plan.specs.Duties.{EachOf, carried, times}

-- what is given away: each order that no duty serves, once
pub record IsRest (case : Case) (duties : List Duty) (out : List ℕ) : Type 0 where
  pub rest : (o : ℕ) → o < length case.week.orders → times o out ≡ cond (eqb (times o (carried duties)) 0) 1 0
  pub known : EachOf (λ n o. o < length case.week.orders) out
