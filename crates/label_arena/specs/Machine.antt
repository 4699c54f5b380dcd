-- The claim machine: seats that draw numbers from one counter, and take and give the chunks of those numbers.
use Rattle.std.specs.Prelude.{◌≡◌, ◌≢◌, ℕ, ◌+◌, ◌<◌, List, [], ◌∷◌, ◌++◌, All, set, remove, Some, slice_get}
use Rattle.label_arena.specs.Counting.{times, total, without}

-- a seat: the numbers that it drew, and those of the chunks that it holds
pub record ClaimSeat : Type 0 where
  pub drawn : List ℕ
  pub held : List ℕ

-- a seat that has drawn nothing and holds nothing
abbrev pub idle_seat : ClaimSeat
idle_seat = record { drawn = []; held = [] }

-- the number of chunks, the counter, and the seats
pub record ClaimState : Type 0 where
  pub chunks : ℕ
  pub counter : ℕ
  pub seats : List ClaimSeat

-- how many seats hold the chunk
abbrev pub holders : ClaimState → ℕ → ℕ
holders state number = total (λ seat. times number seat.held) state.seats

-- no seat holds the chunk
abbrev pub IsAtHome : ClaimState → ℕ → Type 0
IsAtHome state number = holders state number ≡ 0

-- the seat at that place
abbrev pub IsSeatAt : ClaimState → ℕ → ClaimSeat → Type 0
IsSeatAt state place seat = slice_get state.seats place ≡ Some seat

-- a step: seats are named by their places, and a join by the seat that ends and the one that goes on
pub data ClaimStep : Type 0 where
  claims : ℕ → ClaimStep
  takes : ℕ → ℕ → ClaimStep
  gives : ℕ → ℕ → ClaimStep
  splits : ClaimStep
  joins : ℕ → ℕ → ClaimStep

-- the counter is 0, and the seats are idle
abbrev pub IsAtStart : ClaimState → Type 0
IsAtStart state = (state.counter ≡ 0) × All (λ seat. seat ≡ idle_seat) state.seats

-- the state with another seat at that place
abbrev pub with_seat : ClaimState → ℕ → ClaimSeat → ClaimState
with_seat state place seat = record { chunks = state.chunks; counter = state.counter; seats = set state.seats place seat }

-- the state with another counter
abbrev pub with_counter : ClaimState → ℕ → ClaimState
with_counter state counter = record { chunks = state.chunks; counter = counter; seats = state.seats }

-- the state with other seats
abbrev pub with_seats : ClaimState → List ClaimSeat → ClaimState
with_seats state seats = record { chunks = state.chunks; counter = state.counter; seats = seats }

-- the seat draws the counter, which grows by 1
abbrev pub Claims : ℕ → ClaimState → ClaimState → Type 0
Claims place old new = (seat : ClaimSeat) × IsSeatAt old place seat
    × (new ≡ with_counter (with_seat old place (record { drawn = seat.drawn ++ old.counter ∷ []; held = seat.held })) (old.counter + 1))

-- the seat takes a chunk that is at home, whose number it drew
abbrev pub Takes : ℕ → ℕ → ClaimState → ClaimState → Type 0
Takes place number old new = (seat : ClaimSeat) × IsSeatAt old place seat
    × (number < old.chunks) × (0 < times number seat.drawn) × IsAtHome old number
    × (new ≡ with_seat old place (record { drawn = seat.drawn; held = number ∷ seat.held }))

-- the seat gives a chunk that it holds
abbrev pub Gives : ℕ → ℕ → ClaimState → ClaimState → Type 0
Gives place number old new = (seat : ClaimSeat) × IsSeatAt old place seat × (0 < times number seat.held)
    × (new ≡ with_seat old place (record { drawn = seat.drawn; held = without number seat.held }))

-- an idle seat is added
abbrev pub Splits : ClaimState → ClaimState → Type 0
Splits old new = new ≡ with_seats old (old.seats ++ idle_seat ∷ [])

-- a seat that holds nothing ends, and another has drawn its numbers
abbrev pub Joins : ℕ → ℕ → ClaimState → ClaimState → Type 0
Joins ending place old new = (last seat : ClaimSeat) × IsSeatAt old ending last × IsSeatAt old place seat
    × (ending ≢ place) × (last.held ≡ [])
    × (new ≡ with_seats old (remove (set old.seats place (record { drawn = seat.drawn ++ last.drawn; held = seat.held })) ending))

-- what a step does
abbrev pub Steps : ClaimStep → ClaimState → ClaimState → Type 0
Steps (claims place) = Claims place
Steps (takes place number) = Takes place number
Steps (gives place number) = Gives place number
Steps splits = Splits
Steps (joins ending place) = Joins ending place

-- what a list of steps does, from the first on
abbrev pub Runs : List ClaimStep → ClaimState → ClaimState → Type 0
Runs [] old new = new ≡ old
Runs (step ∷ rest) old new = (next : ClaimState) × Steps step old next × Runs rest next new
