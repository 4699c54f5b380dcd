-- What may follow a partial duty, and what becomes of it after a better partial duty, or with listed stays.
use Rattle.std.specs.Prelude.{◌≡◌, ℕ, ◌+◌, ◌-◌, true, List, [], ◌∷◌, ◌++◌, map, ◌≤◌, ◌≤ℤ◌}
use Rattle.week_book.specs.declared.weeks.Week.{Week}
use Rattle.duty_plan.specs.declared.duties.Act.{Act}
use Rattle.duty_plan.specs.declared.duties.Step.{Step}
use Rattle.duty_plan.specs.declared.plans.Case.{Case}
use Rattle.duty_plan.specs.declared.deciding.Pairs.{Pairs}
use Rattle.duty_plan.specs.declared.pricing.Prices.{Prices}
use Rattle.duty_plan.specs.declared.labels.Label.{Label}
use Rattle.duty_plan.specs.PartialDuties.{PartialDuty, place_after, at_after}
use Rattle.duty_plan.specs.Duties.{IsCase, IsLawfulPartialDuty, cost_after, orders_of}
use Rattle.duty_plan.specs.Values.{IsInside, reduced_cost}
use Rattle.duty_plan.specs.Labels.{IsLabelOf, Dominates, forced_orders, is_listed}

-- the acts of some steps
abbrev pub acts_of : PartialDuty → List Act
acts_of steps = map (λ step. step.act) steps

-- a completion of a partial duty: the steps after it, the newest first, with which it is a lawful duty
pub record IsCompletion (case : Case) (driver : ℕ) (partial more : PartialDuty) : Type 0 where
  pub lawful : IsLawfulPartialDuty case driver (more ++ partial)
  pub home : place_after (more ++ partial) ≡ 0

-- a stay with so many more Ready minutes
abbrev pub with_ready : ℕ → Step → Step
with_ready n step = record step { stay = record { ready = step.stay.ready + n; off = step.stay.off; kind = step.stay.kind } }

-- the same steps with so many more Ready minutes in the first stay, which is the last of the list; no step stays none
abbrev pub delayed : ℕ → PartialDuty → PartialDuty
delayed n [] = []
delayed n (step ∷ []) = with_ready n step ∷ []
delayed n (step ∷ (next ∷ more)) = step ∷ delayed n (next ∷ more)

-- steps that may follow a partial duty may follow a better one, delayed as here: they end at the same place, serve the same
-- orders, add the same cost, and the value and the orders of the whole are as good
pub record IsSimulated (case : Case) (driver : ℕ) (prices : Prices) (forced : ℕ) (better worse more later : PartialDuty) : Type 0 where
  pub lawful : IsLawfulPartialDuty case driver (later ++ better)
  pub place : place_after (later ++ better) ≡ place_after (more ++ worse)
  pub acts : acts_of later ≡ acts_of more
  pub orders : orders_of later ≡ orders_of more
  pub cost : cost_after case driver (later ++ better) + cost_after case driver worse
      ≡ cost_after case driver (more ++ worse) + cost_after case driver better
  pub early : at_after case.week (later ++ better) ≤ at_after case.week (more ++ worse)
  pub value : reduced_cost case driver prices (later ++ better) ≤ℤ reduced_cost case driver prices (more ++ worse)
  pub inside : (pairs : Pairs) → forced ≡ forced_orders case.week pairs driver →
      IsInside case.week pairs driver (more ++ worse) → IsInside case.week pairs driver (later ++ better)

-- where one label betters another of the same driver, both after an act, each list of steps that may follow the worse
-- one's partial duty may follow the better one's, once the minutes between the two are added to the Ready minutes of its first
-- stay
abbrev pub Simulates : Type 0
Simulates = (case : Case) (driver : ℕ) (prices : Prices) (forced : ℕ) (a b : Label) (better worse more : PartialDuty) →
    IsCase case → IsLawfulPartialDuty case driver better → IsLawfulPartialDuty case driver worse →
    IsLabelOf case driver prices a better → IsLabelOf case driver prices b worse →
    a.fee_paid ≡ true → b.fee_paid ≡ true → Dominates a b forced → IsLawfulPartialDuty case driver (more ++ worse) →
    IsSimulated case driver prices forced better worse more (delayed (b.clock.at - a.clock.at) more)

-- so a completion of the worse one's partial duty, delayed by the minutes between the two, is one of the better one's
abbrev pub KeepsCompletions : Type 0
KeepsCompletions = (case : Case) (driver : ℕ) (prices : Prices) (forced : ℕ) (a b : Label) (better worse more : PartialDuty) →
    IsCase case → IsLawfulPartialDuty case driver better → IsLawfulPartialDuty case driver worse →
    IsLabelOf case driver prices a better → IsLabelOf case driver prices b worse →
    a.fee_paid ≡ true → b.fee_paid ≡ true → Dominates a b forced → IsCompletion case driver worse more →
    IsCompletion case driver better (delayed (b.clock.at - a.clock.at) more)

-- each stay of some steps after a partial duty is listed
abbrev pub AllListedAfter : Week → PartialDuty → PartialDuty → Type 0
AllListedAfter week partial [] = Unit {0}
AllListedAfter week partial (step ∷ more) = (is_listed week step (more ++ partial) ≡ true) × AllListedAfter week partial more

-- steps with listed stays do what those steps do after the partial duty, at the same cost and no later
pub record IsShifted (case : Case) (driver : ℕ) (partial more listed : PartialDuty) : Type 0 where
  pub listed_stays : AllListedAfter case.week partial listed
  pub lawful : IsLawfulPartialDuty case driver (listed ++ partial)
  pub place : place_after (listed ++ partial) ≡ place_after (more ++ partial)
  pub acts : acts_of listed ≡ acts_of more
  pub orders : orders_of listed ≡ orders_of more
  pub cost : cost_after case driver (listed ++ partial) ≡ cost_after case driver (more ++ partial)
  pub early : at_after case.week (listed ++ partial) ≤ at_after case.week (more ++ partial)

-- whatever may follow a partial duty can be done with listed stays
abbrev pub Shifts : Type 0
Shifts = (case : Case) (driver : ℕ) (partial more : PartialDuty) → IsCase case → IsLawfulPartialDuty case driver (more ++ partial) →
    (listed : PartialDuty) × IsShifted case driver partial more listed

-- and each completion of a partial duty has one with listed stays
abbrev pub ListsCompletions : Type 0
ListsCompletions = (case : Case) (driver : ℕ) (partial more : PartialDuty) → IsCase case → IsCompletion case driver partial more →
    (listed : PartialDuty) × IsShifted case driver partial more listed × IsCompletion case driver partial listed
