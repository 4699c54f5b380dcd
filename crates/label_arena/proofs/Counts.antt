-- Totals over views, and counts in lists that grow by one.
use Rattle.std.proofs.Common.{All, ◌≡◌, ◌≢◌, ℕ, zero, suc, ◌+◌, ◌-◌, ◌<◌, ◌≤◌, eqb, ltb, cond, List, [], ◌∷◌, ◌++◌, set, sym, ap, refl, ◌∙◌, arith}
use mathlib.Core.Option.{some, some-injective, some-ne-none}
use lib.ListN.{get_elem?}
use Rattle.std.proofs.lemmas.Bool.Decides.{nat_tests}
use Rattle.label_arena.specs.Counting.{times, once_below, beyond, top, total}

module _ {V : Type 0} (f : V → ℕ) where
  pub total_set : (vs : List V) (i : ℕ) (v w : V) → get_elem? vs i ≡ some v → total f (set vs i w) + f v ≡ total f vs + f w
  total_set [] i v w at = absurd (some-ne-none v (sym at))
  total_set (x ∷ xs) zero v w at = let same : f x ≡ f v = ap f (some-injective x v at) in omega arith
  total_set (x ∷ xs) (suc i) v w at = let rest = total_set xs i v w at in omega arith

  pub total_at : (vs : List V) (i : ℕ) (v : V) → get_elem? vs i ≡ some v → f v ≤ total f vs
  total_at [] i v at = absurd (some-ne-none v (sym at))
  total_at (x ∷ xs) zero v at = let same : f x ≡ f v = ap f (some-injective x v at) in omega arith
  total_at (x ∷ xs) (suc i) v at = let rest = total_at xs i v at in omega arith

  pub total_le : (g : V → ℕ) (vs : List V) → ((i : ℕ) (v : V) → get_elem? vs i ≡ some v → f v ≤ g v) → total f vs ≤ total g vs
  total_le g [] each = omega arith
  total_le g (x ∷ xs) each = let here = each 0 x refl in let rest = total_le g xs (λ i v at. each (suc i) v at) in omega arith

  pub total_both : (g : V → ℕ) (vs : List V) → total (λ v. f v + g v) vs ≡ total f vs + total g vs
  total_both g [] = refl
  total_both g (x ∷ xs) = let rest = total_both g xs in omega arith

  pub total_snoc : (vs : List V) (v : V) → total f (vs ++ v ∷ []) ≡ total f vs + f v
  total_snoc [] v = omega arith
  total_snoc (x ∷ xs) v = let rest = total_snoc xs v in omega arith

pub times_snoc : (x y : ℕ) (xs : List ℕ) → times x (xs ++ y ∷ []) ≡ times x xs + cond (eqb x y) 1 0
times_snoc x y [] = omega arith
times_snoc x y (z ∷ zs) = let rest = times_snoc x y zs in omega arith

pub beyond_snoc : (m y : ℕ) (xs : List ℕ) → beyond m (xs ++ y ∷ []) ≡ beyond m xs + cond (ltb y m) 0 1
beyond_snoc m y [] = omega arith
beyond_snoc m y (z ∷ zs) = let rest = beyond_snoc m y zs in omega arith

pub once_suc : (x c : ℕ) → once_below x (c + 1) ≡ once_below x c + cond (eqb x c) 1 0
once_suc x c = grind (arith, nat_tests)

pub once_pos : (x c : ℕ) → 0 < once_below x c → x < c
once_pos x c pos = grind (arith, nat_tests)

pub once_is_one : (x c : ℕ) → x < c → once_below x c ≡ 1
once_is_one x c lt = grind (arith, nat_tests)

pub once_le : (x c : ℕ) → once_below x c ≤ 1
once_le x c = grind (arith, nat_tests)

pub times_self : (x : ℕ) (xs : List ℕ) → times x (x ∷ xs) ≡ 1 + times x xs
times_self x xs = grind (arith, nat_tests)

pub times_else : (x y : ℕ) (xs : List ℕ) → x ≢ y → times x (y ∷ xs) ≡ times x xs
times_else x y xs ne = grind (arith, nat_tests)

pub top_le : (c : ℕ) (xs : List ℕ) → ((x : ℕ) → 0 < times x xs → x < c) → top xs ≤ c
top_le c [] below = omega arith
top_le c (x ∷ xs) below =
    let here : x < c = below x (omega (arith, times_self x xs)) in
    let rest : top xs ≤ c = top_le c xs (λ y pos. below y (omega arith)) in omega arith

below_top : (xs : List ℕ) → All (λ x. x < top xs) xs
below_top [] k d lt = absurd (omega arith)
below_top (x ∷ xs) zero d lt = omega arith
below_top (x ∷ xs) (suc k) d lt = let rest = below_top xs k d (omega arith) in omega arith

pub below_all : (n : ℕ) (xs : List ℕ) → top xs ≤ n → All (λ x. x < n) xs
below_all n xs le k d lt = let here = below_top xs k d lt in omega arith

pub none_from_top : (n : ℕ) (xs : List ℕ) → top xs ≤ n → times n xs ≡ 0
none_from_top n [] le = refl
none_from_top n (x ∷ xs) le = times_else n x xs (λ e. omega arith) ∙ none_from_top n xs (omega arith)

pub past_suc : (c m : ℕ) → cond (ltb c m) 0 1 + (c - m) ≡ c + 1 - m
past_suc c m = grind (arith, nat_tests)

pub at_most_one : (c m : ℕ) → cond (ltb c m) 0 1 ≤ 1
at_most_one c m = grind (arith, nat_tests)

pub none_beyond : (m : ℕ) (xs : List ℕ) → All (λ n. n < m) xs → beyond m xs ≡ 0
none_beyond m [] all = refl
none_beyond m (x ∷ xs) all =
    let rest = none_beyond m xs (λ k d lt. all (suc k) d (omega arith)) in let here : x < m = all 0 x (omega arith) in grind (arith, nat_tests)

pub top_snoc : (y : ℕ) (xs : List ℕ) → (top xs ≤ top (xs ++ y ∷ [])) × (y + 1 ≤ top (xs ++ y ∷ []))
top_snoc y [] = (omega arith, omega arith)
top_snoc y (x ∷ xs) = let rest = top_snoc y xs in (omega arith, omega arith)

pub times-append : (x : ℕ) (xs ys : List ℕ) → times x (xs ++ ys) ≡ times x xs + times x ys
times-append x [] ys = omega arith
times-append x (z ∷ zs) ys = let rest = times-append x zs ys in omega arith

pub beyond-append : (m : ℕ) (xs ys : List ℕ) → beyond m (xs ++ ys) ≡ beyond m xs + beyond m ys
beyond-append m [] ys = omega arith
beyond-append m (z ∷ zs) ys = let rest = beyond-append m zs ys in omega arith
