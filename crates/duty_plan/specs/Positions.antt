-- Where a partial duty leaves a driver, and what the office rules say of one step more.
use Rattle.std.specs.Prelude.{◌≡◌, ℕ, ◌+◌, ◌<◌, Some, Result, MatchResult, ◌∷◌, option_map}
use Rattle.week_book.specs.declared.weeks.Week.{Week}
use Rattle.duty_plan.specs.declared.duties.Act.{Act}
use Rattle.duty_plan.specs.declared.duties.Act.TheVariants.{Leg, Serve, Load}
use Rattle.duty_plan.specs.declared.duties.Step.{Step}
use Rattle.duty_plan.specs.declared.faults.DutyFault.{DutyFault}
use Rattle.duty_plan.specs.declared.positions.Position.{Position}
use Rattle.duty_plan.specs.declared.positions.StepEffect.{StepEffect}
use Rattle.duty_plan.specs.Acts.{minutes_of, cents_of_act}
use Rattle.duty_plan.specs.PartialDuties.{PartialDuty, at_after, place_after, used_after, loaded_after, KeepsOffice, KeepsOfficeThrough}
use Rattle.duty_plan.specs.Duties.{night_of}
use Rattle.duty_plan.specs.Labels.{has_step, served_after}
use Rattle.duty_plan.specs.Verdicts.{first_failed, numbered, tests_of_step}

-- where the partial duty leaves the driver
abbrev pub position_of : Week → PartialDuty → Position
position_of week partial = record {
  at = at_after week partial;
  place = place_after partial;
  used = used_after week partial;
  loaded = loaded_after partial;
  begun = has_step partial;
  served = served_after partial;
}

-- the position is that of some partial duty that keeps the office rules
pub record IsPositionOfSome (week : Week) (open_off : ℕ) (capacity : ℕ) (position : Position) : Type 0 where
  pub partial : PartialDuty
  pub office : KeepsOfficeThrough week open_off capacity partial
  pub position_is : position ≡ position_of week partial

-- the step keeps the office rules, and this is what it comes to
pub record IsTaken (week : Week) (open_off : ℕ) (capacity : ℕ) (before : PartialDuty) (step : Step) (taken : StepEffect) : Type 0 where
  pub office : KeepsOffice week open_off capacity step before
  pub minutes : taken.minutes ≡ minutes_of week (place_after before) step.act
  pub cents : taken.cents ≡ night_of week step before + cents_of_act week (place_after before) step.act
  pub position : taken.position ≡ position_of week (step ∷ before)

-- the answer is what the step comes to, or the first office test that it fails, told of the step of that number
abbrev pub TriesStep : Week → ℕ → ℕ → ℕ → PartialDuty → Step → Result StepEffect DutyFault → Type 0
TriesStep week open_off capacity number before step answer =
    MatchResult answer (λ taken. IsTaken week open_off capacity before step taken)
    (λ fault. option_map (numbered number) (first_failed (tests_of_step week open_off capacity step before)) ≡ Some fault)

-- an order that the act serves has a bit of its own
abbrev pub HasBit : Act → Type 0
HasBit (Leg to) = Unit {0}
HasBit (Serve order) = order < 128
HasBit Load = Unit {0}
