-- The draws go on from a state that others have left.
use Rattle.std.proofs.Common.{mod-lt, ◌≡◌, ℕ, zero, suc, ◌+◌, ◌/◌, ◌%◌, ◌^◌, ◌<◌, ap, refl, arith}
use Rattle.seeded_draws.specs.Draws.{state_next, state_after, drawn}

-- the state after some draws and then more
state-on : (seed before more : ℕ) → state_after (state_after seed before) more ≡ state_after seed (before + more)
state-on seed before zero = let same : before + 0 ≡ before = omega arith in rw same refl
state-on seed before (suc more) =
    let next : before + suc more ≡ suc (before + more) = omega arith in
    rw next (ap state_next (state-on seed before more))

-- draws from a state that others have left
pub drawn-on : (seed before others size : ℕ) → drawn (state_after seed before) others size ≡ drawn seed (before + others) size
drawn-on seed before others size = ap (λ (state : ℕ). state_next state / 2 ^ 33 % size) (state-on seed before others)

-- a draw is below its size
pub drawn-below : (seed others size : ℕ) → 0 < size → drawn seed others size < size
drawn-below seed others size some = mod-lt _ some
