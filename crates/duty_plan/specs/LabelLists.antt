-- Lists of labels that a pricing may have stored, and what licenses it to answer that its memory was spent.
use Rattle.std.specs.Prelude.{◌≡◌, ◌≢◌, ◌⊎◌, ℕ, ◌+◌, ◌-◌, ◌*◌, ◌/◌, ◌<◌, ◌≤◌, true, false, not, ◌&&◌, nat_le, if◌then◌else◌, List, [], ◌∷◌, length, ℤ, pos, ◌-ℤ◌, ◌<ℤ◌, Some, slice_get}
use Rattle.week_book.specs.declared.weeks.Week.{Week}
use Rattle.week_book.specs.Weeks.{order_of}
use Rattle.duty_plan.specs.declared.duties.Step.{Step}
use Rattle.duty_plan.specs.declared.plans.Case.{Case}
use Rattle.duty_plan.specs.declared.deciding.Pair.TheVariants.{Forced, Barred}
use Rattle.duty_plan.specs.declared.deciding.Pairs.{Pairs}
use Rattle.duty_plan.specs.declared.pricing.Prices.{Prices}
use Rattle.duty_plan.specs.declared.labels.Label.{Label}
use Rattle.duty_plan.specs.PartialDuties.{PartialDuty, place_after, at_after, serves}
use Rattle.duty_plan.specs.Duties.{EachOf, IsLawfulPartialDuty}
use Rattle.duty_plan.specs.Values.{pair_at, price_at, IsInside, reduced_cost, is_barred}
use Rattle.duty_plan.specs.Sums.{total_below}
use Rattle.duty_plan.specs.Labels.{IsLabelOf, AllListed, Dominates, closes_of, forced_orders}

-- an entry of a list: a label, a partial duty that has it, and the number of the entry that it was extended from
pub record Entry : Type 0 where
  pub label : Label
  pub partial : PartialDuty
  pub parent : ℕ

-- the entry has the label of a lawful partial duty with listed stays that serves no order Barred for the driver
pub record IsEntry (case : Case) (driver : ℕ) (pairs : Pairs) (prices : Prices) (entry : Entry) : Type 0 where
  pub label : IsLabelOf case driver prices entry.label entry.partial
  pub lawful : IsLawfulPartialDuty case driver entry.partial
  pub listed : AllListed case.week entry.partial
  pub unbarred : (order : ℕ) → order < length case.week.orders → pair_at pairs driver order ≡ Barred → serves order entry.partial ≡ false

-- the entry was extended from an earlier one: its partial duty without the last step has that one's label
pub record IsExtended (case : Case) (driver : ℕ) (prices : Prices) (entries : List Entry) (n : ℕ) (entry : Entry) : Type 0 where
  pub from : Entry
  pub step : Step
  pub before : PartialDuty
  pub earlier : entry.parent < n
  pub is_from : slice_get entries entry.parent ≡ Some from
  pub is_step : entry.partial ≡ step ∷ before
  pub has_label : IsLabelOf case driver prices from.label before

-- the price of an order that a longer duty may still bring in: the partial duty doesn't serve it, it isn't Barred, and its
-- window closes no earlier than the partial duty ends
abbrev pub still_open : Week → ℕ → Pairs → Prices → PartialDuty → ℕ → ℕ
still_open week driver pairs prices partial order =
    if not (serves order partial) && (not (is_barred (pair_at pairs driver order))
    && nat_le (at_after week partial) (closes_of (order_of week order)))
    then price_at prices order else 0

-- the least value to be hoped for of a duty that begins with the partial duty: its value less the prices of all such orders
abbrev pub completion_bound : Case → ℕ → Pairs → Prices → PartialDuty → ℤ
completion_bound case driver pairs prices partial =
    reduced_cost case driver prices partial -ℤ pos (total_below (still_open case.week driver pairs prices partial) (length case.week.orders))

-- the first entry is the empty partial duty's
abbrev pub BeginsEmpty : List Entry → Type 0
BeginsEmpty entries = (e : Entry) → slice_get entries 0 ≡ Some e → e.partial ≡ []

-- each later entry was extended from an earlier one
abbrev pub AreExtended : Case → ℕ → Prices → List Entry → Type 0
AreExtended case driver prices entries = (n : ℕ) (e : Entry) → 0 < n → slice_get entries n ≡ Some e → IsExtended case driver prices entries n e

-- one entry betters another
abbrev pub Betters : Case → ℕ → Pairs → Entry → Entry → Type 0
Betters case driver pairs better e = Dominates better.label e.label (forced_orders case.week pairs driver)

-- no entry but the first betters a later one
abbrev pub AreUnbettered : Case → ℕ → Pairs → List Entry → Type 0
AreUnbettered case driver pairs entries = (n k : ℕ) (e better : Entry) → 0 < k → k < n → slice_get entries n ≡ Some e →
    slice_get entries k ≡ Some better → Betters case driver pairs better e → ⊥

-- no other entry but the first, earlier or later, betters one that was extended, unless this is the first
abbrev pub HaveBestParents : Case → ℕ → Pairs → List Entry → Type 0
HaveBestParents case driver pairs entries = (n k child : ℕ) (e better c : Entry) → 0 < n → 0 < k → 0 < child → k ≢ n →
    slice_get entries n ≡ Some e → slice_get entries k ≡ Some better → slice_get entries child ≡ Some c → c.parent ≡ n →
    Betters case driver pairs better e → ⊥

-- each entry but the first serves the forced orders whose windows have closed
abbrev pub AreOnTime : Case → ℕ → Pairs → List Entry → Type 0
AreOnTime case driver pairs entries = (n order : ℕ) (e : Entry) → 0 < n → slice_get entries n ≡ Some e → order < length case.week.orders →
    pair_at pairs driver order ≡ Forced → closes_of (order_of case.week order) < at_after case.week e.partial → serves order e.partial ≡ true

-- the completion bound of each entry is below the value of any earlier one that is a duty inside
abbrev pub AreHopeful : Case → ℕ → Pairs → Prices → List Entry → Type 0
AreHopeful case driver pairs prices entries = (n k : ℕ) (e known : Entry) → k < n → slice_get entries n ≡ Some e →
    slice_get entries k ≡ Some known → place_after known.partial ≡ 0 → IsInside case.week pairs driver known.partial →
    completion_bound case driver pairs prices e.partial <ℤ reduced_cost case driver prices known.partial

-- a label list of a driver: what a pricing may have stored that keeps no label which another betters, nor one whose forced
-- orders are lost, nor one that hopes for no less than what is known
pub record IsLabelList (case : Case) (driver : ℕ) (pairs : Pairs) (prices : Prices) (entries : List Entry) : Type 0 where
  pub some : 0 < length entries
  pub entry : EachOf (λ n e. IsEntry case driver pairs prices e) entries
  pub first : BeginsEmpty entries
  pub extended : AreExtended case driver prices entries
  pub not_bettered : AreUnbettered case driver pairs entries
  pub best_extended : HaveBestParents case driver pairs entries
  pub on_time : AreOnTime case driver pairs entries
  pub hopeful : AreHopeful case driver pairs prices entries

-- how many entries some lists have together
abbrev pub total_length : List (List Entry) → ℕ
total_length [] = 0
total_length (entries ∷ rest) = length entries + total_length rest

-- how many chunks of 1,024 labels hold so many labels
abbrev pub chunks_for : ℕ → ℕ
chunks_for labels = (labels + 1023) / 1024

-- label lists of all drivers that together may fill m chunks: each driver but one may leave a chunk unfilled
pub record FillChunks (m : ℕ) (case : Case) (pairs : Pairs) (prices : Prices) : Type 0 where
  pub lists : List (List Entry)
  pub drivers : length lists ≡ length case.week.drivers
  pub each : EachOf (λ driver entries. IsLabelList case driver pairs prices entries) lists
  pub long : (m - length case.week.drivers + 1) * 1024 ≤ total_length lists

-- a round of a pricer of m chunks may answer Spent: there are fewer chunks than drivers, or label lists fill them
abbrev pub MayExhaustLabels : ℕ → Case → Pairs → Prices → Type 0
MayExhaustLabels m case pairs prices = (m < length case.week.drivers) ⊎ FillChunks m case pairs prices

-- so many labels may be stored for a driver: none, or as many as a label list has
abbrev pub MayStore : Case → ℕ → Pairs → Prices → ℕ → Type 0
MayStore case driver pairs prices stored =
    (stored ≡ 0) ⊎ ((entries : List Entry) × IsLabelList case driver pairs prices entries × (length entries ≡ stored))

-- a label that counts for a driver's reach: a lawful partial duty with listed stays that serves no Barred order has it
abbrev pub IsReached : Case → ℕ → Pairs → Prices → Label → Type 0
IsReached case driver pairs prices label =
    (partial : PartialDuty) × IsEntry case driver pairs prices (record { label = label; partial = partial; parent = 0 })

-- the reach of a driver is the length of this list, which has each such label once
pub record AreReached (case : Case) (driver : ℕ) (pairs : Pairs) (prices : Prices) (labels : List Label) : Type 0 where
  pub each : EachOf (λ n label. IsReached case driver pairs prices label) labels
  pub all : (label : Label) → IsReached case driver pairs prices label → (n : ℕ) × (slice_get labels n ≡ Some label)
  pub once : (n k : ℕ) (a b : Label) → k < n → slice_get labels n ≡ Some a → slice_get labels k ≡ Some b → a ≢ b
