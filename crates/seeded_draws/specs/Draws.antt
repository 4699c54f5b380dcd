-- A linear congruential generator of 64 bits, and the numbers that are drawn from it.
use Rattle.std.specs.Prelude.{ℕ, zero, suc, ◌+◌, ◌*◌, ◌/◌, ◌%◌, ◌^◌}

-- the state that follows a state
unfoldable pub state_next : ℕ → ℕ
state_next state = (state * 6364136223846793005 + 1442695040888963407) % 2 ^ 64

-- the state after so many draws
abbrev pub state_after : ℕ → ℕ → ℕ
state_after seed zero = seed
state_after seed (suc draws) = state_next (state_after seed draws)

-- the number below a size that is drawn after so many others
abbrev pub drawn : ℕ → ℕ → ℕ → ℕ
drawn seed others size = state_after seed (suc others) / 2 ^ 33 % size
