-- Laws on what a pricing may find: bounds on completions, the length of label lists, and the size of least values.
use Rattle.std.specs.Prelude.{◌≡◌, ℕ, ◌≤◌, true, false, List, ◌++◌, length, ℤ, pos, ◌-ℤ◌, ◌≤ℤ◌}
use Rattle.week_book.specs.Weeks.{order_of}
use Rattle.duty_plan.specs.declared.duties.Duty.{Duty}
use Rattle.duty_plan.specs.declared.plans.Case.{Case}
use Rattle.duty_plan.specs.declared.deciding.Pairs.{Pairs}
use Rattle.duty_plan.specs.declared.pricing.Prices.{Prices}
use Rattle.duty_plan.specs.declared.labels.Label.{Label}
use Rattle.duty_plan.specs.PartialDuties.{PartialDuty, at_after, serves}
use Rattle.duty_plan.specs.Duties.{IsCase, IsLawfulPartialDuty, duty_cost_limit}
use Rattle.duty_plan.specs.Values.{IsInside, IsLeast, IsPrices, reduced_cost}
use Rattle.duty_plan.specs.Labels.{closes_of}
use Rattle.duty_plan.specs.LabelLists.{AreReached, Entry, IsLabelList, completion_bound}

-- no lawful duty inside that begins with the partial duty has a value below its completion bound
abbrev pub BoundsCompletions : Type 0
BoundsCompletions = (case : Case) (driver : ℕ) (pairs : Pairs) (prices : Prices) (partial more : PartialDuty) →
    IsLawfulPartialDuty case driver (more ++ partial) → IsInside case.week pairs driver (more ++ partial) →
    completion_bound case driver pairs prices partial ≤ℤ reduced_cost case driver prices (more ++ partial)

-- the window of an order that a later step serves closes no earlier than the partial duty ends
abbrev pub ServesInTime : Type 0
ServesInTime = (case : Case) (driver : ℕ) (partial more : PartialDuty) (order : ℕ) → IsLawfulPartialDuty case driver (more ++ partial) →
    serves order partial ≡ false → serves order (more ++ partial) ≡ true → at_after case.week partial ≤ closes_of (order_of case.week order)

-- a label list is no longer than the list of all labels that the driver can reach
abbrev pub ListsStayInReach : Type 0
ListsStayInReach = (case : Case) (driver : ℕ) (pairs : Pairs) (prices : Prices) (labels : List Label) (entries : List Entry) →
    AreReached case driver pairs prices labels → IsLabelList case driver pairs prices entries → length entries ≤ length labels

-- a least value, in cents, lies far within 2^40 either way
abbrev pub LeastIsSmall : Type 0
LeastIsSmall = (case : Case) (driver : ℕ) (pairs : Pairs) (prices : Prices) (value : ℤ) (duty : Duty) → IsCase case →
    IsPrices case.week prices → IsLeast case driver pairs prices value duty →
    ((pos 0 -ℤ pos 12000000000) ≤ℤ value) × (value ≤ℤ pos duty_cost_limit)
