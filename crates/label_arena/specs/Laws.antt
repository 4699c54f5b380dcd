-- The laws of the claim machine.
use Rattle.std.specs.Prelude.{◌≡◌, ◌≢◌, ◌⊎◌, ℕ, ◌<◌, ◌≤◌, List}
use Rattle.label_arena.specs.Counting.{times, once_below, total}
use Rattle.label_arena.specs.Views.{SeatView}
use Rattle.label_arena.specs.Machine.{ClaimSeat, ClaimState, ClaimStep, IsAtStart, IsAtHome, IsSeatAt, Runs}

-- after every list of steps the numbers that the seats drew are those below the counter, each once
abbrev pub DrawsOnce : Type 0
DrawsOnce = (steps : List ClaimStep) (start state : ClaimState) → IsAtStart start → Runs steps start state →
    (number : ℕ) → total (λ seat. times number seat.drawn) state.seats ≡ once_below number state.counter

-- the seat at that place holds the chunk, once, and drew its number; no other seat holds it
pub record IsHolder (state : ClaimState) (number place : ℕ) : Type 0 where
  pub seat : ClaimSeat
  pub at_place : IsSeatAt state place seat
  pub holds : times number seat.held ≡ 1
  pub drew : times number seat.drawn ≡ 1
  pub alone : (other : ℕ) (holder : ClaimSeat) → IsSeatAt state other holder → other ≢ place → times number holder.held ≡ 0

-- after every list of steps each chunk is at home or is held by exactly one seat, which drew it
abbrev pub HasOneHolder : Type 0
HasOneHolder = (steps : List ClaimStep) (start state : ClaimState) → IsAtStart start → Runs steps start state →
    (number : ℕ) → number < state.chunks → IsAtHome state number ⊎ ((place : ℕ) × IsHolder state number place)

-- after every list of steps no seat holds a number that has no chunk
abbrev pub HoldsChunksAlone : Type 0
HoldsChunksAlone = (steps : List ClaimStep) (start state : ClaimState) → IsAtStart start → Runs steps start state →
    (number : ℕ) → state.chunks ≤ number → IsAtHome state number

-- after every list of steps the chunk of the next number is at home: a seat that draws it can take it
abbrev pub FindsNextAtHome : Type 0
FindsNextAtHome = (steps : List ClaimStep) (start state : ClaimState) → IsAtStart start → Runs steps start state → IsAtHome state state.counter

-- where a seat drew a number that has no chunk, each chunk's number has been drawn
abbrev pub DrawsAllBeforeFull : Type 0
DrawsAllBeforeFull = (steps : List ClaimStep) (start state : ClaimState) → IsAtStart start → Runs steps start state →
    (place past : ℕ) (seat : ClaimSeat) → IsSeatAt state place seat → state.chunks ≤ past → 0 < times past seat.drawn →
    (number : ℕ) → number < state.chunks → total (λ seat. times number seat.drawn) state.seats ≡ 1

-- where seats drew the numbers below some number, each once, and one of them drew a number that has no chunk, each chunk's
-- number was drawn once
abbrev pub FullMeansAllDrawn : Type 0
FullMeansAllDrawn = (seats : List SeatView) (chunks drawn : ℕ) → ((number : ℕ) → total (λ seat. times number seat.drawn) seats ≡ once_below number drawn) →
    (past : ℕ) → chunks ≤ past → 0 < total (λ seat. times past seat.drawn) seats →
    (number : ℕ) → number < chunks → total (λ seat. times number seat.drawn) seats ≡ 1
