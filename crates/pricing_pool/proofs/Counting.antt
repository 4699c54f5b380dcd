-- Drawn numbers, counted over the seats of a list or over the numbers below its length.
use Rattle.std.proofs.Common.{◌≡◌, ℕ, zero, suc, ◌+◌, List, [], ◌∷◌, ◌++◌, length, refl, arith, Option, Some, None, slice_get}
use Rattle.label_arena.specs.Counting.{times as times_of_seat, total}
use Rattle.duty_plan.specs.Duties.{times}
use Rattle.duty_plan.specs.Sums.{total_below}

-- both crates count alike
pub times-same : (x : ℕ) (xs : List ℕ) → times_of_seat x xs ≡ times x xs
times-same x [] = refl
times-same x (y ∷ ys) = omega (arith, times-same x ys)

pub total-same : {X : Type 0} (f g : X → ℕ) (xs : List X) → ((x : X) → f x ≡ g x) → total f xs ≡ total g xs
total-same f g [] same = refl
total-same f g (x ∷ xs) same = omega (arith, same x, total-same f g xs same)

-- f of the element, or 0 where there is none
abbrev pub or_zero : {X : Type 0} → (X → ℕ) → Option X → ℕ
or_zero f None = 0
or_zero f (Some x) = f x

first-below : (f : ℕ → ℕ) (n : ℕ) → total_below f (suc n) ≡ f 0 + total_below (λ k. f (suc k)) n
first-below f zero = omega arith
first-below f (suc n) = omega (arith, first-below f n)

-- a sum over a list, by places
pub total-below : {X : Type 0} (f : X → ℕ) (xs : List X) → total_below (λ k. or_zero f (slice_get xs k)) (length xs) ≡ total f xs
total-below f [] = refl
total-below f (x ∷ xs) = omega (arith, first-below (λ k. or_zero f (slice_get (x ∷ xs) k)) (length xs), total-below f xs)

-- one element more in the sum
pub total-push : {X : Type 0} (f : X → ℕ) (xs : List X) (x : X) → total f (xs ++ x ∷ []) ≡ total f xs + f x
total-push f [] x = omega arith
total-push f (y ∷ ys) x = omega (arith, total-push f ys x)
