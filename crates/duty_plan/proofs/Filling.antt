-- Lists of entries, and the chunks that they fill.
use Rattle.std.proofs.Common.{◌≡◌, ◌≢◌, ◌⊎◌, inl, inr, ℕ, zero, suc, ◌+◌, ◌*◌, ◌<◌, ◌≤◌, List, [], ◌∷◌, length, refl, ap, arith, Some, slice_get}
use Rattle.std.proofs.lemmas.Bool.{cases_eq}
use Rattle.duty_plan.specs.Sums.{total_below}
use Rattle.duty_plan.specs.LabelLists.{Entry, total_length}

-- the lists of the numbers below n
abbrev pub listed : {X : Type 0} → (ℕ → X) → ℕ → List X
listed f zero = []
listed f (suc n) = f 0 ∷ listed (λ k. f (suc k)) n

pub listed-length : {X : Type 0} (f : ℕ → X) (n : ℕ) → length (listed f n) ≡ n
listed-length f zero = refl
listed-length f (suc n) = omega (arith, listed-length (λ k. f (suc k)) n)

pub listed-at : {X : Type 0} (f : ℕ → X) (n k : ℕ) (x : X) → slice_get (listed f n) k ≡ Some x → (k < n) × (f k ≡ x)
listed-at f zero k x h = cc
listed-at f (suc n) zero x h = (omega arith, cc)
listed-at f (suc n) (suc k) x h = let rest = listed-at (λ i. f (suc i)) n k x h in (omega arith, rest.1)

pub first-total : (f : ℕ → ℕ) (n : ℕ) → total_below f (suc n) ≡ f 0 + total_below (λ k. f (suc k)) n
first-total f zero = omega arith
first-total f (suc n) = omega (arith, first-total f n)

pub listed-total : (f : ℕ → List Entry) (n : ℕ) → total_length (listed f n) ≡ total_below (λ k. length (f k)) n
listed-total f zero = refl
listed-total f (suc n) = omega (arith, first-total (λ k. length (f k)) n, listed-total (λ k. f (suc k)) n)

-- each but one may leave a chunk unfilled
pub loose : (g len : ℕ → ℕ) (n : ℕ) → ((k : ℕ) → k < n → 1024 * g k ≤ len k + 1024) → 1024 * total_below g n ≤ total_below len n + 1024 * n
loose g len zero h = omega arith
loose g len (suc n) h = omega (arith, h n (omega arith), loose g len n (λ k l. h k (omega arith)))

pub tight_step : (g len : ℕ → ℕ) (n last : ℕ) → last < suc n → ((k : ℕ) → k < suc n → 1024 * g k ≤ len k + 1024) → 1024 * g last ≤ len last →
    (last < n → 1024 * total_below g n + 1024 ≤ total_below len n + 1024 * n) → (last ≡ n) ⊎ (last ≢ n) →
    1024 * total_below g (suc n) + 1024 ≤ total_below len (suc n) + 1024 * suc n
tight_step g len n last l h full more (inl e) = omega (arith, ap g e, ap len e, loose g len n (λ k lk. h k (omega arith)))
tight_step g len n last l h full more (inr other) = omega (arith, h n (omega arith), more (omega arith))

pub tight : (g len : ℕ → ℕ) (n last : ℕ) → last < n → ((k : ℕ) → k < n → 1024 * g k ≤ len k + 1024) → 1024 * g last ≤ len last →
    1024 * total_below g n + 1024 ≤ total_below len n + 1024 * n
tight g len zero last l h full = absurd (omega arith)
tight g len (suc n) last l h full =
    tight_step g len n last l h full (λ lt. tight g len n last lt (λ k lk. h k (omega arith)) full) (cases_eq last n)
