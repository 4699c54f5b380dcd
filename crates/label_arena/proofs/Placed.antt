-- Totals over lists that are read by place.
use Rattle.std.proofs.Common.{◌≡◌, ◌≢◌, ℕ, zero, suc, ◌+◌, ◌<◌, ◌≤◌, List, [], ◌∷◌, set, sym, ap, ◌∙◌, refl, arith, Some, slice_get}
use Rattle.std.specs.Prelude.{remove}
use mathlib.Core.Logic.{dite}
use native.Mathlib.Decide.{dec_le}
use Rattle.label_arena.specs.Counting.{total}

module _ {V : Type 0} (f : V → ℕ) where
  pub total_put : (vs : List V) (i : ℕ) (v w : V) → slice_get vs i ≡ Some v → total f (set vs i w) + f v ≡ total f vs + f w
  total_put [] i v w at = absurd (cc)
  total_put (x ∷ xs) zero v w at = let same : x ≡ v = cc in let is : f x ≡ f v = ap f same in omega arith
  total_put (x ∷ xs) (suc i) v w at = let rest = total_put xs i v w at in omega arith

  pub total_least : (vs : List V) (i : ℕ) (v : V) → slice_get vs i ≡ Some v → f v ≤ total f vs
  total_least [] i v at = absurd (cc)
  total_least (x ∷ xs) zero v at = let same : x ≡ v = cc in let is : f x ≡ f v = ap f same in omega arith
  total_least (x ∷ xs) (suc i) v at = let rest = total_least xs i v at in omega arith

  pub total-remove : (vs : List V) (i : ℕ) (v : V) → slice_get vs i ≡ Some v → total f (remove vs i) + f v ≡ total f vs
  total-remove [] i v at = absurd (cc)
  total-remove (x ∷ xs) zero v at = let same : x ≡ v = cc in let is : f x ≡ f v = ap f same in omega arith
  total-remove (x ∷ xs) (suc i) v at = let rest = total-remove xs i v at in omega arith

  -- one has a share of the total, and where that is 1, no other has
  pub record HasShare (vs : List V) (place : ℕ) : Type 0 where
    pub value : V
    pub at_place : slice_get vs place ≡ Some value
    pub some : 0 < f value
    pub others : (j : ℕ) (u : V) → slice_get vs j ≡ Some u → j ≢ place → f u ≡ 0

  others_after : (x : V) (xs : List V) (k : ℕ) → f x ≡ 0 → ((j : ℕ) (u : V) → slice_get xs j ≡ Some u → j ≢ k → f u ≡ 0)
      → (j : ℕ) (u : V) → slice_get (x ∷ xs) j ≡ Some u → j ≢ suc k → f u ≡ 0
  others_after x xs k bare rest zero u at ne = let same : x ≡ u = cc in sym (ap f same) ∙ bare
  others_after x xs k bare rest (suc j) u at ne = rest j u at (λ e. ne (ap suc e))

  others_first : (x : V) (xs : List V) → total f xs ≡ 0 → (j : ℕ) (u : V) → slice_get (x ∷ xs) j ≡ Some u → j ≢ 0 → f u ≡ 0
  others_first x xs none zero u at ne = absurd (ne refl)
  others_first x xs none (suc j) u at ne = let least = total_least xs j u at in omega arith

  pub has_share : (vs : List V) → 0 < total f vs → total f vs ≤ 1 → (place : ℕ) × HasShare vs place
  has_share [] pos most = absurd (omega arith)
  has_share (x ∷ xs) pos most = dite (dec_le 1 (f x))
      (λ yes. (0, record { value = x; at_place = refl; some = yes; others = others_first x xs (omega arith) }))
      (λ no. let bare : f x ≡ 0 = omega arith in let rest = has_share xs (omega arith) (omega arith) in
      (suc rest.0, record { value = rest.1.value; at_place = rest.1.at_place; some = rest.1.some; others = others_after x xs rest.0 bare rest.1.others }))

pub get-set_else : {V : Type 0} (vs : List V) (i j : ℕ) (w : V) → j ≢ i → slice_get (set vs i w) j ≡ slice_get vs j
get-set_else [] i j w ne = refl
get-set_else (x ∷ xs) zero zero w ne = absurd (ne refl)
get-set_else (x ∷ xs) zero (suc j) w ne = refl
get-set_else (x ∷ xs) (suc i) zero w ne = refl
get-set_else (x ∷ xs) (suc i) (suc j) w ne = get-set_else xs i j w (λ e. ne (ap suc e))
