-- Which labels need not be stored: no lawful duty inside that begins with their steps is worth less than what is known.
use Rattle.std.specs.Prelude.{◌≡◌, ◌⊎◌, ℕ, ◌+◌, ◌<◌, Bool, true, false, not, ◌&&◌, ◌==◌, if◌then◌else◌, ◌++◌, length, Option, Some, None, ℤ, pos, ◌+ℤ◌, ◌-ℤ◌, ◌≤ℤ◌, ◌<ℤ◌}
use Rattle.std.specs.Int.{bit_at}
use Rattle.minute_line.specs.declared.lines.TheConstants.{WEEK_MINUTES}
use Rattle.week_book.specs.declared.weeks.Week.{Week}
use Rattle.week_book.specs.Weeks.{order_of}
use Rattle.duty_plan.specs.declared.plans.Case.{Case}
use Rattle.duty_plan.specs.declared.deciding.Pair.TheVariants.{Forced}
use Rattle.duty_plan.specs.declared.deciding.Pairs.{Pairs}
use Rattle.duty_plan.specs.declared.pricing.Prices.{Prices}
use Rattle.duty_plan.specs.declared.labels.Label.{Label}
use Rattle.duty_plan.specs.PartialDuties.{PartialDuty, place_after, at_after, serves}
use Rattle.duty_plan.specs.Duties.{IsLawfulPartialDuty}
use Rattle.duty_plan.specs.Values.{IsInside, is_barred, pair_at, price_at, reduced_cost}
use Rattle.duty_plan.specs.Labels.{IsLabelOf, closes_of}
use Rattle.duty_plan.specs.LabelLists.{completion_bound}
use Rattle.duty_plan.specs.Sums.{total_below}
use Rattle.duty_label.specs.declared.walks.Walks.{Walks}
use Rattle.duty_plan.specs.Acts.{cents_of_road, minutes_of_road}
use Rattle.duty_label.specs.Walks.{AreLeastMinutes, AreLeastCents, AreTaken, can_reach}
use Rattle.duty_label.specs.Tables.{cell}

-- the bound on the minutes of the walks from one place to another
abbrev pub minutes_between : Walks → ℕ → ℕ → ℕ
minutes_between walks = cell walks.minutes.rows.items

-- the bound on their cents
abbrev pub cents_between : Walks → ℕ → ℕ → ℕ
cents_between walks = cell walks.cents.rows.items

-- the tables are lower bounds on the walks of a week
pub record AreWalksOf (week : Week) (walks : Walks) : Type 0 where
  pub minutes : AreLeastMinutes week (minutes_between walks)
  pub cents : AreLeastCents week (cents_between walks)

-- and each number of them is what some walk takes, but where it is the largest number
pub record AreLeastWalksOf (week : Week) (walks : Walks) : Type 0 where
  pub minutes : AreTaken minutes_of_road week (minutes_between walks)
  pub cents : AreTaken cents_of_road week (cents_between walks)

-- the order can be reached from where the label's steps end
abbrev pub reaches : Week → Walks → Label → ℕ → Bool
reaches week walks label order = can_reach week (minutes_between walks) label.clock.at label.place order

-- the order is Forced for the driver and lacking, and can't be reached any more
pub record IsLost (week : Week) (walks : Walks) (driver : ℕ) (pairs : Pairs) (label : Label) (order : ℕ) : Type 0 where
  pub forced : pair_at pairs driver order ≡ Forced
  pub lacking : bit_at label.served order ≡ 0
  pub out : reaches week walks label order ≡ false

-- an order that is Forced for the driver is lacking, and can't be reached any more
pub record LacksForced (week : Week) (walks : Walks) (driver : ℕ) (pairs : Pairs) (label : Label) : Type 0 where
  pub order : ℕ
  pub in_week : order < length week.orders
  pub lost : IsLost week walks driver pairs label order

-- the price of an order that may still be brought in: it isn't served, isn't Barred, and can be reached
abbrev pub may_bring : Week → Walks → ℕ → Pairs → Prices → Label → ℕ → ℕ
may_bring week walks driver pairs prices label order =
    if (bit_at label.served order == 0) && (not (is_barred (pair_at pairs driver order)) && reaches week walks label order)
    then price_at prices order else 0

-- no completion has a smaller value: the label's, with the least cents home, less the prices of all such orders
abbrev pub completion_value : Week → Walks → ℕ → Pairs → Prices → Label → ℤ
completion_value week walks driver pairs prices label =
    (label.value +ℤ pos (cents_between walks label.place 0)) -ℤ pos (total_below (may_bring week walks driver pairs prices label) (length week.orders))

-- a value is known that is at most this one
abbrev pub Knows : Option ℤ → ℤ → Type 0
Knows None value = ⊥
Knows (Some known) value = known ≤ℤ value

-- a label that isn't stored: no walk leads home within the week, or a Forced order is lost, or no completion is worth less than
-- what is known
abbrev pub IsHopeless : Week → Walks → ℕ → Pairs → Prices → Label → Option ℤ → Type 0
IsHopeless week walks driver pairs prices label known =
    (WEEK_MINUTES < label.clock.at + minutes_between walks label.place 0)
    ⊎ (LacksForced week walks driver pairs label ⊎ Knows known (completion_value week walks driver pairs prices label))

-- the steps, the newest first, make the partial duty a lawful duty inside the pairs
pub record IsWayHome (case : Case) (driver : ℕ) (pairs : Pairs) (partial more : PartialDuty) : Type 0 where
  pub lawful : IsLawfulPartialDuty case driver (more ++ partial)
  pub home : place_after (more ++ partial) ≡ 0
  pub inside : IsInside case.week pairs driver (more ++ partial)

-- no way home makes the steps of a hopeless label a duty that is worth less than what is known; where nothing is known there is no
-- way home
abbrev pub PrunesSoundly : Type 0
PrunesSoundly = (case : Case) (driver : ℕ) (walks : Walks) (pairs : Pairs) (prices : Prices) (known : Option ℤ) (label : Label) (partial more : PartialDuty) →
    AreWalksOf case.week walks → IsLabelOf case driver prices label partial → IsHopeless case.week walks driver pairs prices label known →
    IsWayHome case driver pairs partial more → Knows known (reduced_cost case driver prices (more ++ partial))

-- a label that isn't hopeless serves each Forced order whose window has closed, as the labels of a label list do
abbrev pub KeepsOnTime : Type 0
KeepsOnTime = (case : Case) (driver : ℕ) (walks : Walks) (pairs : Pairs) (prices : Prices) (known : Option ℤ) (label : Label) (partial : PartialDuty) →
    IsLabelOf case driver prices label partial → (IsHopeless case.week walks driver pairs prices label known → ⊥) →
    (order : ℕ) → order < length case.week.orders → pair_at pairs driver order ≡ Forced → closes_of (order_of case.week order) < at_after case.week partial →
    serves order partial ≡ true

-- and its completion bound is below what is known
abbrev pub KeepsHopeful : Type 0
KeepsHopeful = (case : Case) (driver : ℕ) (walks : Walks) (pairs : Pairs) (prices : Prices) (known : ℤ) (label : Label) (partial : PartialDuty) →
    IsLabelOf case driver prices label partial → (IsHopeless case.week walks driver pairs prices label (Some known) → ⊥) →
    completion_bound case driver pairs prices partial <ℤ known
