-- A list with one element more, somewhere.
use Rattle.std.proofs.Common.{◌≡◌, ◌⊎◌, inl, inr, ℕ, zero, suc, ◌≤◌, List, [], ◌∷◌, length, refl, arith, Some, slice_get}
use Rattle.std.specs.List.{insert}

pub inserted-at : {X : Type 0} (xs : List X) (i : ℕ) (x : X) → i ≤ length xs → slice_get (insert xs i x) i ≡ Some x
inserted-at xs zero x l = refl
inserted-at [] (suc i) x l = absurd (omega arith)
inserted-at (y ∷ ys) (suc i) x l = inserted-at ys i x (omega arith)

pub inserted-old : {X : Type 0} (xs : List X) (i : ℕ) (x : X) (k : ℕ) (y : X) → i ≤ length xs → slice_get xs k ≡ Some y →
    (j : ℕ) × (slice_get (insert xs i x) j ≡ Some y)
inserted-old xs zero x k y l h = (suc k, h)
inserted-old [] (suc i) x k y l h = absurd (omega arith)
inserted-old (z ∷ zs) (suc i) x zero y l h = (zero, h)
inserted-old (z ∷ zs) (suc i) x (suc k) y l h = let more = inserted-old zs i x k y (omega arith) h in (suc more.0, more.1)

pub inserted-back : {X : Type 0} (xs : List X) (i : ℕ) (x : X) (k : ℕ) (y : X) → i ≤ length xs → slice_get (insert xs i x) k ≡ Some y →
    (x ≡ y) ⊎ ((j : ℕ) × (slice_get xs j ≡ Some y))
inserted-back xs zero x zero y l h = inl (let g = h in cc)
inserted-back xs zero x (suc k) y l h = inr (k, h)
inserted-back [] (suc i) x k y l h = absurd (omega arith)
inserted-back (z ∷ zs) (suc i) x zero y l h = inr (zero, h)
inserted-back {X = X} (z ∷ zs) (suc i) x (suc k) y l h = by_rest (inserted-back zs i x k y (omega arith) h)
  where
    by_rest : (x ≡ y) ⊎ ((j : ℕ) × (slice_get zs j ≡ Some y)) → (x ≡ y) ⊎ ((j : ℕ) × (slice_get (z ∷ zs) j ≡ Some y))
    by_rest (inl e) = inl e
    by_rest (inr g) = inr (suc g.0, g.1)
