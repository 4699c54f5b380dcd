-- What the seat of a pricing has drawn and holds.
use Rattle.std.specs.Prelude.{◌≡◌, ℕ, ◌+◌, ◌/◌, ◌%◌, ◌<◌, ◌≤◌, List, [], length, reverse, All}
use Rattle.label_arena.specs.Views.{RoundView, SeatView}
use Rattle.duty_plan.specs.Duties.{times}
use Rattle.duty_plan.specs.SharedRounds.{chunks_drawn}

-- a seat of the round holds the chunks of these numbers: all that it drew, and as many as so many labels need, so that all
-- of them are full but the last
pub record HoldsChunks (round : RoundView) (seat : SeatView) (numbers : List ℕ) (stored : ℕ) : Type 0 where
  pub name : seat.name ≡ round.name
  pub held : seat.held ≡ reverse numbers
  pub drawn : chunks_drawn round.chunks seat.drawn ≡ length numbers
  pub needed : length numbers ≡ (stored + 1023) / 1024

-- and each number that it drew is that of a chunk; below a bound of these numbers there are as many numbers as it has chunks
pub record IsOpenSeat (round : RoundView) (seat : SeatView) (numbers : List ℕ) (stored : ℕ) : Type 0 where
  pub holds : HoldsChunks round seat numbers stored
  pub open_still : All (λ number. number < round.chunks) seat.drawn
  pub few : (bound : ℕ) → All (λ number. number < bound) seat.drawn → length numbers ≤ bound

-- or it drew a number at or past the number of chunks, while each chunk that it held was full
pub record IsFullSeat (round : RoundView) (seat : SeatView) (numbers : List ℕ) (stored : ℕ) : Type 0 where
  pub holds : HoldsChunks round seat numbers stored
  pub number : ℕ
  pub drew : 0 < times number seat.drawn
  pub past : round.chunks ≤ number
  pub full : stored % 1024 ≡ 0

-- the seat holds nothing any more; what it drew stays
pub record HasGivenAll (old new : SeatView) : Type 0 where
  pub name : new.name ≡ old.name
  pub drawn : new.drawn ≡ old.drawn
  pub held : new.held ≡ []
