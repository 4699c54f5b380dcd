-- What a pricing answers for one driver.
use Rattle.std.specs.Prelude.{◌≡◌, ◌+◌, ℕ, [], length, List, ℤ, None}
use Rattle.minute_line.specs.declared.lines.TheConstants.{WEEK_MINUTES}
use Rattle.label_arena.specs.Views.{RoundView, SeatView}
use Rattle.duty_plan.specs.declared.duties.Duty.{Duty}
use Rattle.duty_plan.specs.declared.plans.Case.{Case}
use Rattle.duty_plan.specs.declared.deciding.Pairs.{Pairs}
use Rattle.duty_plan.specs.declared.pricing.Prices.{Prices}
use Rattle.duty_plan.specs.Values.{IsLeast, HasNoDuty}
use Rattle.duty_plan.specs.LabelLists.{Entry}
use Rattle.duty_plan.specs.SharedRounds.{IsSeatOf, IsSpentSeat}
use Rattle.duty_pricing.specs.declared.asking.Asked.{Asked}
use Rattle.duty_pricing.specs.declared.pricing.Found.{Found}
use Rattle.duty_pricing.specs.declared.pricing.Found.TheVariants.{Least, NoDuty, Spent}
use Rattle.duty_pricing.specs.declared.scratch.Scratch.{Scratch}
use Rattle.duty_pricing.specs.declared.stores.LabelStore.{LabelStore}
use Rattle.duty_pricing.specs.Holding.{HoldsChunks}
use Rattle.duty_pricing.specs.Slots.{AreChained, entries_of}

-- room for the minutes of any week, and for the hours of each place
pub record StoreHasRoom (store : LabelStore) : Type 0 where
  pub minutes : length store.minutes.items ≡ WEEK_MINUTES + 1
  pub cells : length store.cells.items ≡ 21632

-- no label is stored, and no chunk is held
pub record IsEmptyStore (store : LabelStore) : Type 0 where
  pub none : store.slots ≡ []
  pub no_chunk : store.numbers ≡ []
  pub unknown : store.known ≡ None
  pub chained : AreChained store.minutes.items store.cells.items []
  pub room : StoreHasRoom store

-- the seat holds the chunks of the store: all that it drew, all full but at most one
abbrev pub HoldsStore : RoundView → SeatView → LabelStore → Type 0
HoldsStore round seat store = HoldsChunks round seat store.numbers (length store.slots)

-- the steps are those of a duty that has the least value
pub record HasLeastSteps (case : Case) (driver : ℕ) (pairs : Pairs) (prices : Prices) (store : LabelStore) (value : ℤ) : Type 0 where
  pub duty : Duty
  pub least : IsLeast case driver pairs prices value duty
  pub steps : store.steps ≡ duty.steps

-- the answer of a pricing with m chunks is right: the least value with a duty that has it, no duty where there is none, or the
-- number of stored labels, where the numbers that its seat drew and these labels are those of a spent seat
abbrev pub IsFoundIn : ℕ → Case → ℕ → Pairs → Prices → List ℕ → LabelStore → Found → Type 0
IsFoundIn m case driver pairs prices drawn store (Least value) = HasLeastSteps case driver pairs prices store value
IsFoundIn m case driver pairs prices drawn store NoDuty = HasNoDuty case driver pairs
IsFoundIn m case driver pairs prices drawn store (Spent stored) =
    IsSpentSeat m drawn (entries_of store.slots) × (stored ≡ length store.slots)

-- steps are left only where a duty was found
abbrev pub HasStepsOnlyOfDuty : LabelStore → Found → Type 0
HasStepsOnlyOfDuty store (Least value) = Unit {0}
HasStepsOnlyOfDuty store NoDuty = store.steps ≡ []
HasStepsOnlyOfDuty store (Spent stored) = store.steps ≡ []

-- so for what is asked
abbrev pub IsFound : Asked → SeatView → LabelStore → Found → Type 0
IsFound asked seat store found =
    IsFoundIn asked.round.now.chunks asked.case.now asked.driver asked.pairs.now asked.prices.now seat.drawn store found

-- the numbers that the seat drew and the stored labels are those of a seat that priced a driver
abbrev pub IsSeated : Asked → SeatView → LabelStore → Type 0
IsSeated asked seat store =
    IsSeatOf asked.round.now.chunks asked.case.now asked.driver asked.pairs.now asked.prices.now seat.drawn (entries_of store.slots)

-- the scratch as a list of entries: its stored labels in order
abbrev pub entries_in : Scratch → List Entry
entries_in scratch = entries_of scratch.labels.slots

-- it has room for the minutes of any week, and for the hours of each place
abbrev pub HasRoom : Scratch → Type 0
HasRoom scratch = StoreHasRoom scratch.labels

-- no label is stored, and no chunk is held
abbrev pub IsEmpty : Scratch → Type 0
IsEmpty scratch = IsEmptyStore scratch.labels

-- the seat holds the chunks of the scratch: all that it drew, all full but at most one
abbrev pub HoldsScratch : RoundView → SeatView → Scratch → Type 0
HoldsScratch round seat scratch = HoldsStore round seat scratch.labels

-- the answer of a pricing with m chunks is right
abbrev pub IsFoundFor : ℕ → Case → ℕ → Pairs → Prices → List ℕ → Scratch → Found → Type 0
IsFoundFor m case driver pairs prices drawn scratch found = IsFoundIn m case driver pairs prices drawn scratch.labels found
