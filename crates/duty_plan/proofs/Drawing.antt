-- Numbers that are drawn, and how many of them are below a number.
use Rattle.std.proofs.Common.{◌≡◌, ◌≢◌, ◌⊎◌, inl, inr, ℕ, zero, suc, ◌<◌, ◌≤◌, Bool, true, false, cond, eqb, ltb, List, [], ◌∷◌, refl, ap, sym, arith}
use Rattle.std.proofs.lemmas.Bool.{cases_eq}
use Rattle.std.proofs.lemmas.Bool.Decides.{nat_tests}
use Rattle.duty_plan.specs.Duties.{times}
use Rattle.duty_plan.specs.Sums.{total_below}
use Rattle.duty_plan.specs.SharedRounds.{chunks_drawn}
use Rattle.duty_plan.proofs.Sums.{total-add, total-zero, total-one}

-- the chunks drawn are the numbers below m that were
pub ones-past : (x n : ℕ) → n ≤ x → total_below (λ o. cond (eqb o x) 1 0) n ≡ 0
ones-past x n l = total-zero _ n (λ o h. grind (arith, nat_tests))

pub ones-below : (x m : ℕ) (b : Bool) → ltb x m ≡ b → total_below (λ o. cond (eqb o x) 1 0) m ≡ cond b 1 0
ones-below x m true e = total-one (λ o. 1) x m (grind (arith, nat_tests))
ones-below x m false e = ones-past x m (grind (arith, nat_tests))

pub drawn-times : (m : ℕ) (xs : List ℕ) → total_below (λ o. times o xs) m ≡ chunks_drawn m xs
drawn-times m [] = total-zero (λ o. 0) m (λ o l. refl)
drawn-times m (x ∷ xs) =
    let first : total_below (λ o. cond (eqb o x) 1 0) m ≡ cond (ltb x m) 1 0 = ones-below x m (ltb x m) refl in
    omega (arith, total-add (λ o. cond (eqb o x) 1 0) (λ o. times o xs) m, drawn-times m xs)

-- sums over two numbers in either order
pub swapped : (h : ℕ → ℕ → ℕ) (d m : ℕ) → total_below (λ k. total_below (λ o. h k o) m) d ≡ total_below (λ o. total_below (λ k. h k o) d) m
swapped h zero m = sym (total-zero (λ o. 0) m (λ o l. refl))
swapped h (suc d) m = omega (arith, total-add (λ o. h d o) (λ o. total_below (λ k. h k o) d) m, swapped h d m)

pub as-many-ones : (f : ℕ → ℕ) (m : ℕ) → ((o : ℕ) → o < m → f o ≡ 1) → total_below f m ≡ m
as-many-ones f zero h = refl
as-many-ones f (suc m) h = omega (arith, h m (omega arith), as-many-ones f m (λ o l. h o (omega arith)))

pub once-one : (o counter : ℕ) → o < counter → ◌≡◌ {A = ℕ} (cond (ltb o counter) 1 0) 1
once-one o counter l = grind (arith, nat_tests)

pub once-below : (o counter n : ℕ) → n ≡ cond (ltb o counter) 1 0 → 0 < n → o < counter
once-below o counter n e l = grind (arith, nat_tests)

pub one-of_step : (f : ℕ → ℕ) (n k : ℕ) → k < suc n → (k < n → f k ≤ total_below f n) → (k ≡ n) ⊎ (k ≢ n) → f k ≤ total_below f (suc n)
one-of_step f n k l more (inl e) = omega (arith, ap f e)
one-of_step f n k l more (inr other) = omega (arith, more (omega arith))

pub one-of : (f : ℕ → ℕ) (n k : ℕ) → k < n → f k ≤ total_below f n
one-of f zero k l = absurd (omega arith)
one-of f (suc n) k l = one-of_step f n k l (λ h. one-of f n k h) (cases_eq k n)

-- the numbers below n, the greatest first
abbrev pub upto : ℕ → List ℕ
upto zero = []
upto (suc n) = n ∷ upto n

pub times-upto : (x n : ℕ) → times x (upto n) ≡ cond (ltb x n) 1 0
times-upto x zero = grind (arith, nat_tests)
times-upto x (suc n) = let before = times-upto x n in grind (arith, nat_tests)

pub chunks-upto : (m n : ℕ) → n ≤ m → chunks_drawn m (upto n) ≡ n
chunks-upto m zero l = refl
chunks-upto m (suc n) l = let before = chunks-upto m n (omega arith) in grind (arith, nat_tests)

pub chunks-past : (m : ℕ) → chunks_drawn m (upto (suc m)) ≡ m
chunks-past m = let all = chunks-upto m m (omega arith) in grind (arith, nat_tests)
