-- The hours in which work days began.
use Rattle.std.proofs.Common.{ℕ, ◌/◌, ◌≤◌, ◌≤ℤ◌, ℤ, pos, negsuc, arith}
use Rattle.std.proofs.lemmas.Int.{ints}
use Rattle.duty_plan.specs.Values.{or_zero}
use Rattle.duty_pricing.specs.Slots.{day_hour}

zero-low : (a : ℤ) (n : ℕ) → a ≤ℤ pos n → or_zero a ≤ n
zero-low (pos m) n h = omega (arith, ints, h)
zero-low (negsuc m) n h = omega arith

-- a work day that began no sooner began in no earlier hour
pub hours-rise : (a b : ℤ) → a ≤ℤ b → day_hour a ≤ day_hour b
hours-rise a (pos n) h = let low = zero-low a n h in omega (arith, low)
hours-rise (negsuc m) (negsuc n) h = omega arith
hours-rise (pos m) (negsuc n) h = absurd (omega (arith, ints, h))

-- one that began by a minute began in its hour or an earlier one
pub hours-low : (a : ℤ) (minute : ℕ) → a ≤ℤ pos minute → day_hour a ≤ minute / 60
hours-low a minute h = let low = zero-low a minute h in omega (arith, low)
