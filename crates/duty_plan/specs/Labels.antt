-- What a driver's steps so far come to, and when one such label is better than another.
use Rattle.std.specs.Prelude.{bit_or, zero, suc, ◌≡◌, ℕ, ◌+◌, ◌-◌, ◌^◌, ◌≤◌, Bool, true, false, ◌==◌, if◌then◌else◌, [], ◌∷◌, length, ◌≤ℤ◌, Option, Some, None}
use Rattle.std.specs.Int.{bit_at}
use Rattle.minute_line.specs.Marks.{is_rest}
use Rattle.hours_rules.specs.Standing.{Stands}
use Rattle.hours_rules.specs.Order.{ClockDominates}
use Rattle.week_book.specs.declared.weeks.Order.{Order}
use Rattle.week_book.specs.declared.weeks.Week.{Week}
use Rattle.week_book.specs.Weeks.{order_of}
use Rattle.duty_plan.specs.declared.duties.Act.{Act}
use Rattle.duty_plan.specs.declared.duties.Act.TheVariants.{Leg, Serve, Load}
use Rattle.duty_plan.specs.declared.duties.Step.{Step}
use Rattle.duty_plan.specs.declared.plans.Case.{Case}
use Rattle.duty_plan.specs.declared.deciding.Pair.{Pair}
use Rattle.duty_plan.specs.declared.deciding.Pair.TheVariants.{Free, Forced, Barred}
use Rattle.duty_plan.specs.declared.deciding.Pairs.{Pairs}
use Rattle.duty_plan.specs.declared.pricing.Prices.{Prices}
use Rattle.duty_plan.specs.declared.labels.Label.{Label}
use Rattle.duty_plan.specs.PartialDuties.{PartialDuty, line_after, place_after, at_after, used_after, loaded_after}
use Rattle.duty_plan.specs.Duties.{past_at}
use Rattle.duty_plan.specs.Values.{pair_at, reduced_cost}

-- the order that an act serves, as a bit
abbrev pub bit_of_act : Act → ℕ
bit_of_act (Leg to) = 0
bit_of_act (Serve order) = 2 ^ order
bit_of_act Load = 0

-- the orders that a partial duty serves, as the bits of one number: order n is the bit n, and no other bit is set
abbrev pub served_after : PartialDuty → ℕ
served_after [] = 0
served_after (step ∷ before) = bit_or (served_after before) (bit_of_act step.act)

-- the partial duty is not the empty one
abbrev pub has_step : PartialDuty → Bool
has_step [] = false
has_step (step ∷ before) = true

-- the label of a partial duty: each of its fields is fixed, so that a partial duty has one label
pub record IsLabelOf (case : Case) (driver : ℕ) (prices : Prices) (label : Label) (partial : PartialDuty) : Type 0 where
  pub clock : Stands label.clock (past_at case driver) (line_after case.week partial)
  pub place : label.place ≡ place_after partial
  pub served : label.served ≡ served_after partial
  pub used : label.used ≡ used_after case.week partial
  pub loaded : label.loaded ≡ loaded_after partial
  pub fee_paid : label.fee_paid ≡ has_step partial
  pub value : label.value ≡ reduced_cost case driver prices partial

-- the first minute at which an order's service may start
abbrev pub opens_of : Option Order → ℕ
opens_of None = 0
opens_of (Some order) = order.opens

-- the last minute at which it may
abbrev pub closes_of : Option Order → ℕ
closes_of None = 0
closes_of (Some order) = order.closes

-- the Ready minutes of a listed Plain stay: those that are left until the order's window opens, and none before
-- another act
abbrev pub listed_ready : Week → Step → PartialDuty → ℕ
listed_ready week step before = elim step.act [
  | Leg to ↦ 0
  | Serve order ↦ opens_of (order_of week order) - (at_after week before + step.stay.off)
  | Load ↦ 0
]

-- a stay is listed: a daily or weekly rest has no Ready minute, and a Plain stay just those until the window; the Off
-- minutes and the start of the act are any that the office rules allow
abbrev pub is_listed : Week → Step → PartialDuty → Bool
is_listed week step before =
    step.stay.ready == (if is_rest step.stay.kind then 0 else listed_ready week step before)

-- each stay of a partial duty is listed
abbrev pub AllListed : Week → PartialDuty → Type 0
AllListed week [] = Unit {0}
AllListed week (step ∷ before) = (is_listed week step before ≡ true) × AllListed week before

-- a label betters another, for a driver with these forced orders, given as bits: the same place, a clock that is as
-- good, no more load, no larger value, a load act where the other has one, no order that the other doesn't serve, and
-- the same forced orders
pub record Dominates (a b : Label) (forced : ℕ) : Type 0 where
  pub clock : ClockDominates a.clock b.clock
  pub place : a.place ≡ b.place
  pub used : a.used ≤ b.used
  pub value : a.value ≤ℤ b.value
  pub loaded : b.loaded ≡ true → a.loaded ≡ true
  pub among : (order : ℕ) → bit_at a.served order ≤ bit_at b.served order
  pub agree : (order : ℕ) → bit_at forced order ≡ 1 → bit_at a.served order ≡ bit_at b.served order

-- the numbers below n at which a test holds, as the bits of one number
abbrev pub bits_below : (ℕ → Bool) → ℕ → ℕ
bits_below test zero = 0
bits_below test (suc n) = bit_or (bits_below test n) (if test n then 2 ^ n else 0)

-- Forced, and not Barred or Free
abbrev pub is_forced : Pair → Bool
is_forced Free = false
is_forced Forced = true
is_forced Barred = false

-- the orders that are Forced for a driver, as the bits of one number
abbrev pub forced_orders : Week → Pairs → ℕ → ℕ
forced_orders week pairs driver = bits_below (λ order. is_forced (pair_at pairs driver order)) (length week.orders)
