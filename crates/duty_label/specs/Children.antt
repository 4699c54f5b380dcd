-- What one step more makes of a driver's label.
use Rattle.std.specs.Prelude.{◌≡◌, ℕ, ℤ, pos, ◌-ℤ◌, ◌≤ℤ◌, Bool, true, false, ◌&&◌, nat_lt, if◌then◌else◌, ◌∷◌, length, Option, Some, None, option_map, Result, Err, MatchResult}
use Rattle.hours_rules.specs.Rules.{fault}
use Rattle.week_book.specs.declared.weeks.Week.{Week}
use Rattle.duty_plan.specs.declared.duties.Act.{Act}
use Rattle.duty_plan.specs.declared.duties.Act.TheVariants.{Leg, Serve, Load}
use Rattle.duty_plan.specs.declared.duties.Step.{Step}
use Rattle.duty_plan.specs.declared.duties.Duty.{Duty}
use Rattle.duty_plan.specs.declared.faults.DutyFault.{DutyFault}
use Rattle.duty_plan.specs.declared.faults.DutyFault.TheVariants.{Rule}
use Rattle.duty_plan.specs.declared.plans.Case.{Case}
use Rattle.duty_plan.specs.declared.deciding.Pairs.{Pairs}
use Rattle.duty_plan.specs.declared.pricing.Prices.{Prices}
use Rattle.duty_plan.specs.declared.labels.Label.{Label}
use Rattle.duty_plan.specs.PartialDuties.{PartialDuty, line_after, place_after}
use Rattle.duty_plan.specs.Duties.{IsLawfulPartialDuty, cost_after, partial_of, past_at, open_off_at, capacity_at}
use Rattle.duty_plan.specs.Values.{is_barred, pair_at}
use Rattle.duty_plan.specs.Labels.{IsLabelOf}
use Rattle.duty_plan.specs.Verdicts.{duty_verdict, earlier_or, first_failed, numbered, office_fault, tests_of_step, verdict_after}
use Rattle.duty_label.specs.declared.refusals.NoChild.{NoChild}
use Rattle.duty_label.specs.declared.refusals.NoChild.TheVariants.{Barred, Fault}

-- the partial duty is lawful for the driver, and this is its label at these prices
pub record HasLabel (case : Case) (driver : ℕ) (prices : Prices) (partial : PartialDuty) (label : Label) : Type 0 where
  pub lawful : IsLawfulPartialDuty case driver partial
  pub label_of : IsLabelOf case driver prices label partial

-- the label is that of some lawful partial duty of the driver
pub record IsLabelOfSome (case : Case) (driver : ℕ) (prices : Prices) (label : Label) : Type 0 where
  pub partial : PartialDuty
  pub has_label : HasLabel case driver prices partial label

-- the act serves an order of the week that is Barred for the driver; a number past the week's orders is no order
abbrev pub serves_barred : Week → Pairs → ℕ → Act → Bool
serves_barred week pairs driver (Leg to) = false
serves_barred week pairs driver (Serve order) = nat_lt order (length week.orders) && is_barred (pair_at pairs driver order)
serves_barred week pairs driver Load = false

-- the fault that a step brings to a lawful partial duty: the first office test that it fails, told of step 0, or else the first
-- minute of the longer line at which an hours rule fails, with the least rule there
abbrev pub fault_of_step : Case → ℕ → PartialDuty → Step → Option DutyFault
fault_of_step case driver before step =
    earlier_or (option_map (numbered 0) (first_failed (tests_of_step case.week (open_off_at case driver) (capacity_at case driver) step before)))
    (option_map (λ broken. Rule broken) (fault (past_at case driver) (line_after case.week (step ∷ before))))

-- what the judge of duties finds of a partial duty, but for the way home
abbrev pub verdict_on : Case → ℕ → PartialDuty → Result ℕ DutyFault
verdict_on case driver partial =
    verdict_after (office_fault case.week (open_off_at case driver) (capacity_at case driver) partial) true
    (fault (past_at case driver) (line_after case.week partial)) (cost_after case driver partial)

-- the fault that a step brings is the one that the judge names, with the step's own number
abbrev pub NamedAsJudged : Type 0
NamedAsJudged = (case : Case) (driver : ℕ) (before : PartialDuty) (step : Step) (found : DutyFault) → IsLawfulPartialDuty case driver before →
    fault_of_step case driver before step ≡ Some found → verdict_on case driver (step ∷ before) ≡ Err (numbered (length before) found)

-- so it is of a duty that ends with the step at the depot
abbrev pub NamedForDuties : Type 0
NamedForDuties = (case : Case) (driver : ℕ) (duty : Duty) (before : PartialDuty) (step : Step) (found : DutyFault) →
    partial_of duty ≡ step ∷ before → place_after (step ∷ before) ≡ 0 → IsLawfulPartialDuty case driver before →
    fault_of_step case driver before step ≡ Some found → duty_verdict case driver duty ≡ Err (numbered (length before) found)

-- why the driver may not go on by a step after a lawful partial duty: the act serves an order that is Barred for the driver, or
-- else the step brings a fault
abbrev pub no_child : Case → ℕ → Pairs → PartialDuty → Step → Option NoChild
no_child case driver pairs before step =
    if serves_barred case.week pairs driver step.act
    then Some Barred
    else option_map (λ found. Fault found) (fault_of_step case driver before step)

-- the answer is the label of the partial duty with the step, which brings no fault, or the fault that it brings
abbrev pub AnswersLonger : Case → ℕ → Prices → PartialDuty → Step → Result Label DutyFault → Type 0
AnswersLonger case driver prices before step answer =
    MatchResult answer (λ next. (fault_of_step case driver before step ≡ None) × IsLabelOf case driver prices next (step ∷ before))
    (λ found. fault_of_step case driver before step ≡ Some found)

-- the answer is the label of the partial duty with the step, where nothing is against it, or what is against it
abbrev pub AnswersChild : Case → ℕ → Pairs → Prices → PartialDuty → Step → Result Label NoChild → Type 0
AnswersChild case driver pairs prices before step answer =
    MatchResult answer (λ next. (no_child case driver pairs before step ≡ None) × IsLabelOf case driver prices next (step ∷ before))
    (λ refusal. no_child case driver pairs before step ≡ Some refusal)

-- a value is far from the ends of its type
pub record IsSmallValue (value : ℤ) : Type 0 where
  pub least : (pos 0 -ℤ pos 2000000000000) ≤ℤ value
  pub most : value ≤ℤ pos 2000000000000
