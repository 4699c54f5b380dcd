-- A pricing under way: its stored labels are a label list, and the best duty among them is known.
use Rattle.std.specs.Prelude.{◌≡◌, ◌⊎◌, ℕ, ◌+◌, ◌<◌, ◌≤◌, true, List, ◌∷◌, ◌++◌, length, ℤ, Option, None, Some, slice_get}
use Rattle.minute_line.specs.declared.lines.TheConstants.{WEEK_MINUTES}
use Rattle.duty_plan.specs.declared.duties.Step.{Step}
use Rattle.duty_plan.specs.declared.labels.Label.{Label}
use Rattle.duty_plan.specs.PartialDuties.{PartialDuty, place_after}
use Rattle.duty_plan.specs.Duties.{EachOf}
use Rattle.duty_plan.specs.Values.{IsInside, reduced_cost}
use Rattle.duty_plan.specs.Labels.{is_listed}
use Rattle.duty_plan.specs.LabelLists.{Entry, IsLabelList}
use Rattle.duty_pricing.specs.declared.asking.Asked.{Asked}
use Rattle.duty_pricing.specs.declared.stores.LabelStore.{LabelStore}
use Rattle.duty_pricing.specs.declared.tried.Tried.{Tried}
use Rattle.duty_pricing.specs.declared.tried.Tried.TheVariants.{Full, Done, RuledOut}
use Rattle.duty_pricing.specs.declared.slots.Slot.{Slot}
use Rattle.duty_outlook.specs.Laws.{IsNoSooner}
use Rattle.label_arena.specs.Views.{SeatView}
use Rattle.duty_beam.specs.Finding.{IsDutyOf}
use Rattle.duty_label.specs.Pruning.{Knows}
use Rattle.duty_pricing.specs.Exhausting.{IsHopeless, IsKnown, IsSpared, MayFollow}
use Rattle.duty_pricing.specs.Holding.{IsFullSeat, IsOpenSeat}
use Rattle.duty_pricing.specs.Slots.{AreChained, entries_of, partial_at}
use Rattle.duty_pricing.specs.Storing.{AreExtendedBy, IsNewEntry, IsNoHigher, IsUnbettered}

-- the entry of that number is a lawful duty inside of that value
pub record HasBest (asked : Asked) (entries : List Entry) (best : ℕ) (value : ℤ) : Type 0 where
  pub entry : Entry
  pub is_entry : slice_get entries best ≡ Some entry
  pub home : place_after entry.partial ≡ 0
  pub inside : IsInside asked.case.now.week asked.pairs.now asked.driver entry.partial
  pub has_value : reduced_cost asked.case.now asked.driver asked.prices.now entry.partial ≡ value

-- so is the entry of that number, or the duty that was found beforehand is one
abbrev pub IsBest : Asked → List Entry → Option ℕ → ℤ → Type 0
IsBest asked entries None value = IsDutyOf asked.case.now asked.driver asked.pairs.now asked.prices.now asked.steps.now value
IsBest asked entries (Some number) value = HasBest asked entries number value

-- the stored labels are chained and a label list, each that was extended ends by the minute, and what is known is the least
-- value of the lawful duties inside among them and of the one that was found beforehand
pub record IsSearch (asked : Asked) (minute : ℕ) (store : LabelStore) : Type 0 where
  pub chained : AreChained store.minutes.items store.cells.items store.slots
  pub list : IsLabelList asked.case.now asked.driver asked.pairs.now asked.prices.now (entries_of store.slots)
  pub extended : AreExtendedBy minute (entries_of store.slots)
  pub shown : EachOf (λ n e. IsKnown asked.case.now asked.driver asked.pairs.now asked.prices.now store.known e) (entries_of store.slots)
  pub has_best : (value : ℤ) → store.known ≡ Some value → IsBest asked (entries_of store.slots) store.best value
  pub minutes_all : length store.minutes.items ≡ WEEK_MINUTES + 1
  pub cells_all : length store.cells.items ≡ 21632

-- the seat holds the chunks of the stored labels, and was not answered Full
abbrev pub IsOpen : Asked → SeatView → LabelStore → Type 0
IsOpen asked seat store = IsOpenSeat asked.round.now seat store.numbers (length store.slots)

-- it was answered Full, while all of its chunks were full
abbrev pub IsFull : Asked → SeatView → LabelStore → Type 0
IsFull asked seat store = IsFullSeat asked.round.now seat store.numbers (length store.slots)

-- slots are added that end after the minute, none goes, and what was as low as what is known still is
pub record GrowsTo (minute : ℕ) (old new : LabelStore) : Type 0 where
  pub more : List Slot
  pub is : new.slots ≡ old.slots ++ more
  pub low : IsNoHigher old.known new.known
  pub late : (k : ℕ) (slot : Slot) → length old.slots ≤ k → slice_get new.slots k ≡ Some slot → minute < slot.label.clock.at

-- slot n has the label, and no other slot but the first betters it
pub record MayExtend (asked : Asked) (store : LabelStore) (n : ℕ) (label : Label) : Type 0 where
  pub entry : Entry
  pub is_entry : slice_get (entries_of store.slots) n ≡ Some entry
  pub is_label : entry.label ≡ label
  pub best : 0 < n → IsUnbettered asked.case.now asked.driver asked.pairs.now (entries_of store.slots) n label

-- the stay of the step is listed after slot n
abbrev pub IsListedAt : Asked → LabelStore → ℕ → Step → Type 0
IsListedAt asked store n step =
    (entry : Entry) → slice_get (entries_of store.slots) n ≡ Some entry → is_listed asked.case.now.week step entry.partial ≡ true

-- where the step must be tried after slot n, it was
abbrev pub HasTried : Asked → LabelStore → ℕ → Step → Type 0
HasTried asked store n step =
    (entry : Entry) → slice_get (entries_of store.slots) n ≡ Some entry →
    MayFollow asked.case.now asked.driver asked.pairs.now step entry.partial →
    IsSpared asked.case.now asked.driver asked.pairs.now asked.prices.now store.known (entries_of store.slots) (step ∷ entry.partial)

-- whatever ends no sooner than the step after slot n, and there, is hopeless
abbrev pub RulesOut : Asked → LabelStore → ℕ → Step → Type 0
RulesOut asked store n step =
    (entry : Entry) → slice_get (entries_of store.slots) n ≡ Some entry →
    (later : PartialDuty) → IsNoSooner asked.case.now asked.driver asked.prices.now (step ∷ entry.partial) later →
    IsHopeless asked.case.now asked.driver asked.pairs.now asked.prices.now store.known later

-- a fact for each answer to a step that is tried
abbrev pub OnTried : Tried → Type 0 → Type 0 → Type 0 → Type 0
OnTried Full full done ruled_out = full
OnTried Done full done ruled_out = done
OnTried RuledOut full done ruled_out = ruled_out

-- the entry that a step after slot n comes to, with a label
abbrev pub entry_at : LabelStore → ℕ → Step → Label → Entry
entry_at store n step label =
    record { label = label; partial = step ∷ partial_at (entries_of store.slots) n; parent = n }

-- the label of a step after slot n may be stored, at a minute
abbrev pub MayAdd : Asked → ℕ → LabelStore → ℕ → Step → Label → Type 0
MayAdd asked minute store n step label =
    IsNewEntry asked.case.now asked.driver asked.pairs.now asked.prices.now minute store.known (entries_of store.slots)
    (entry_at store n step label)

-- what is known with one value more: it is as low as the value and as what was known, and is one of the two
pub record Learns (old new : LabelStore) (value : ℤ) (number : ℕ) : Type 0 where
  pub same_slots : new.slots ≡ old.slots
  pub same_numbers : new.numbers ≡ old.numbers
  pub same_minutes : new.minutes.items ≡ old.minutes.items
  pub same_cells : new.cells.items ≡ old.cells.items
  pub low : IsNoHigher old.known new.known
  pub as_low : Knows new.known value
  pub from : ((new.known ≡ old.known) × (new.best ≡ old.best)) ⊎ ((new.known ≡ Some value) × (new.best ≡ Some number))

-- after some steps were tried after slot n: the pricing is under way at the label's minute, the slot may be extended still, and
-- slots were added alone
pub record GoesOn (asked : Asked) (n : ℕ) (from : Label) (old new : LabelStore) : Type 0 where
  pub search : IsSearch asked from.clock.at new
  pub still : MayExtend asked new n from
  pub grows : GrowsTo from.clock.at old new
