-- Lawful duties and plans, and their cost.
use Rattle.std.specs.Prelude.{◌≡◌, ℕ, ◌+◌, ◌*◌, ◌<◌, not, ◌&&◌, ◌==◌, if◌then◌else◌, List, [], ◌∷◌, ◌++◌, length, reverse, Option, Some, None, slice_get}
use Rattle.minute_line.specs.declared.lines.TheConstants.{WEEK_MINUTES}
use Rattle.minute_line.specs.declared.lines.History.{History}
use Rattle.minute_line.specs.Marks.{is_daily}
use Rattle.hours_rules.specs.Debts.{no_debt}
use Rattle.hours_rules.specs.Rules.{Past, fault}
use Rattle.hours_rules.specs.Verdicts.{past_of}
use Rattle.week_book.specs.declared.weeks.Order.{Order}
use Rattle.week_book.specs.declared.weeks.Driver.{Driver}
use Rattle.week_book.specs.declared.weeks.Week.{Week}
use Rattle.week_book.specs.Weeks.{order_of, driver_of, IsWeek}
use Rattle.duty_plan.specs.declared.duties.Step.{Step}
use Rattle.duty_plan.specs.declared.duties.Duty.{Duty}
use Rattle.duty_plan.specs.declared.plans.Plan.{Plan}
use Rattle.duty_plan.specs.declared.plans.Case.{Case}
use Rattle.duty_plan.specs.Acts.{cents_of_act, order_of_act}
use Rattle.duty_plan.specs.PartialDuties.{PartialDuty, line_after, place_after, KeepsOfficeThrough}

-- P holds of each element of a list, at its number from 0
abbrev pub EachOf : {X : Type 0} → (ℕ → X → Type 0) → List X → Type 0
EachOf {X} P xs = (n : ℕ) (x : X) → slice_get xs n ≡ Some x → P n x

-- the steps of a duty, the newest first
abbrev pub partial_of : Duty → PartialDuty
partial_of duty = reverse duty.steps

-- what a history puts before Monday, or nothing
abbrev pub past_or_none : Option History → Past
past_or_none None = record { minutes = []; prev_weekly = 0; prev_drive = 0; work_before = 0; debt = no_debt }
past_or_none (Some history) = past_of history

-- what stands before a driver's Monday
abbrev pub past_at : Case → ℕ → Past
past_at case driver = past_or_none (slice_get case.past driver)

-- the minutes of a history's open off run
abbrev pub open_or_none : Option History → ℕ
open_or_none None = 0
open_or_none (Some history) = history.open_off

-- the minutes of a driver's open off run on Monday
abbrev pub open_off_at : Case → ℕ → ℕ
open_off_at case driver = open_or_none (slice_get case.past driver)

-- the kg that a driver's lorry carries at most
abbrev pub capacity_or_none : Option Driver → ℕ
capacity_or_none None = 0
capacity_or_none (Some driver) = driver.capacity

-- the kg that the lorry of that driver carries at most
abbrev pub capacity_at : Case → ℕ → ℕ
capacity_at case driver = capacity_or_none (driver_of case.week driver)

-- the cents of a driver's fee
abbrev pub fee_or_none : Option Driver → ℕ
fee_or_none None = 0
fee_or_none (Some driver) = driver.fee

-- the cents that a subcontractor takes for an order
abbrev pub price_or_none : Option Order → ℕ
price_or_none None = 0
price_or_none (Some order) = order.price

-- the cents that it costs to give that order away
abbrev pub price_of : Week → ℕ → ℕ
price_of week order = price_or_none (order_of week order)

-- a partial duty is lawful for a driver: the office rules hold at each step, and no hours rule fails
pub record IsLawfulPartialDuty (case : Case) (driver : ℕ) (partial : PartialDuty) : Type 0 where
  pub office : KeepsOfficeThrough case.week (open_off_at case driver) (capacity_at case driver) partial
  pub hours : fault (past_at case driver) (line_after case.week partial) ≡ None

-- a duty is lawful for a driver: its steps are, and they end at the depot; the Off minutes after them break no rule
pub record IsLawful (case : Case) (driver : ℕ) (duty : Duty) : Type 0 where
  pub partial : IsLawfulPartialDuty case driver (partial_of duty)
  pub home : place_after (partial_of duty) ≡ 0

-- a Daily stay away from the depot costs a night
abbrev pub night_of : Week → Step → PartialDuty → ℕ
night_of week step before = if is_daily step.stay.kind && not (place_after before == 0) then week.night else 0

-- the cents of the legs and the nights
abbrev pub cents_after : Week → PartialDuty → ℕ
cents_after week [] = 0
cents_after week (step ∷ before) =
    night_of week step before + (cents_of_act week (place_after before) step.act + cents_after week before)

-- what a partial duty costs a driver, in cents: nothing where it has no step, else the fee, the legs and the nights
abbrev pub cost_after : Case → ℕ → PartialDuty → ℕ
cost_after case driver [] = 0
cost_after case driver (step ∷ before) =
    fee_or_none (driver_of case.week driver) + cents_after case.week (step ∷ before)

-- no lawful duty costs more, in cents: a fee of 10,000,000, and in each minute of the week a leg or a night of 1,000,000
abbrev pub duty_cost_limit : ℕ
duty_cost_limit = 10000000 + 1000000 * WEEK_MINUTES

-- the orders that a partial duty serves
abbrev pub orders_of : PartialDuty → List ℕ
orders_of [] = []
orders_of (step ∷ before) = order_of_act step.act ++ orders_of before

-- the orders that the duties serve
abbrev pub carried : List Duty → List ℕ
carried [] = []
carried (duty ∷ rest) = orders_of (partial_of duty) ++ carried rest

-- how often a number is in a list
abbrev pub times : ℕ → List ℕ → ℕ
times order [] = 0
times order (first ∷ rest) = (if order == first then 1 else 0) + times order rest

-- the sum of what the orders of a list are worth
abbrev pub worth : (ℕ → ℕ) → List ℕ → ℕ
worth price [] = 0
worth price (order ∷ rest) = price order + worth price rest

-- in how many places an order is: served by a duty, or given away
abbrev pub times_placed : Plan → ℕ → ℕ
times_placed plan order = times order (carried plan.duties) + times order plan.out

-- a plan is lawful: one lawful duty for each driver, and each order once among those served and those given away
pub record IsLawfulPlan (case : Case) (plan : Plan) : Type 0 where
  pub duties : length plan.duties ≡ length case.week.drivers
  pub lawful : EachOf (IsLawful case) plan.duties
  pub once : (order : ℕ) → order < length case.week.orders → times_placed plan order ≡ 1
  pub known : EachOf (λ n order. order < length case.week.orders) plan.out

-- the cost of duties in cents, the first of which is that driver's
abbrev pub cost_of_duties : Case → ℕ → List Duty → ℕ
cost_of_duties case driver [] = 0
cost_of_duties case driver (duty ∷ rest) = cost_after case driver (partial_of duty) + cost_of_duties case (driver + 1) rest

-- the cost of a plan in cents: its duties', and what subcontractors take
abbrev pub cost_of_plan : Case → Plan → ℕ
cost_of_plan case plan = cost_of_duties case 0 plan.duties + worth (price_of case.week) plan.out

-- no lawful plan costs more, in cents: sixteen such duties, and what subcontractors take for 120 orders, 100,000,000 each
abbrev pub plan_cost_limit : ℕ
plan_cost_limit = 16 * duty_cost_limit + 120 * 100000000

-- a valid case: a checked week, and one history for each driver
pub record IsCase (case : Case) : Type 0 where
  pub week : IsWeek case.week
  pub drivers : length case.past ≡ length case.week.drivers
