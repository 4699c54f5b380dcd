-- What the search for a good duty finds.
use Rattle.std.specs.Prelude.{◌≡◌, ℕ, true, false, List, reverse, ℤ}
use Rattle.duty_plan.specs.declared.duties.Step.{Step}
use Rattle.duty_plan.specs.declared.plans.Case.{Case}
use Rattle.duty_plan.specs.declared.deciding.Pair.TheVariants.{Barred, Forced}
use Rattle.duty_plan.specs.declared.deciding.Pairs.{Pairs}
use Rattle.duty_plan.specs.declared.pricing.Prices.{Prices}
use Rattle.duty_plan.specs.PartialDuties.{PartialDuty, serves}
use Rattle.duty_plan.specs.Values.{IsChoice, pair_at, reduced_cost}
use Rattle.duty_beam.specs.declared.beams.Beam.{Beam}

-- the steps of the duty that was found last; none where the last search found no duty
abbrev pub steps_of : Beam → List Step
steps_of beam = beam.steps.items

-- an order is served if it is Forced for the driver, and isn't if it is Barred
pub record KeepsPair (pairs : Pairs) (driver : ℕ) (partial : PartialDuty) (order : ℕ) : Type 0 where
  pub forced : pair_at pairs driver order ≡ Forced → serves order partial ≡ true
  pub barred : pair_at pairs driver order ≡ Barred → serves order partial ≡ false

-- the steps are a lawful duty that the driver may be given, of that value
pub record IsDutyOf (case : Case) (driver : ℕ) (pairs : Pairs) (prices : Prices) (steps : List Step) (value : ℤ) : Type 0 where
  pub choice : IsChoice case driver pairs (record { steps = steps })
  pub has_value : reduced_cost case driver prices (reverse steps) ≡ value
