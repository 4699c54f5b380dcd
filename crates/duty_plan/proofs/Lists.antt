-- A list, one element after another.
use Rattle.std.proofs.Common.{◌≡◌, ℕ, zero, suc, ◌+◌, ◌<◌, List, [], ◌∷◌, ◌++◌, length, Some, get_or, take, drop, reverse, refl, ap, sym, ◌∙◌, add-one, take-append-drop, slice_get, arith}
use Rattle.std.proofs.Math.Seq.{take-suc, drop-cons}
use Rattle.std.proofs.lemmas.List.{reverse-append}

-- an element between those before it and those after it
pub split-at : {X : Type 0} (xs : List X) (i : ℕ) (x d : X) → i < length xs → x ≡ get_or xs i d → take i xs ++ (x ∷ drop (suc i) xs) ≡ xs
split-at xs i x d l e =
    ap (λ y. take i xs ++ (y ∷ drop (suc i) xs)) e ∙ (ap (λ t. take i xs ++ t) (sym (drop-cons xs i d l)) ∙ take-append-drop i xs)

-- one element more
pub take-more : {X : Type 0} (xs : List X) (i : ℕ) (x d : X) → i < length xs → x ≡ get_or xs i d → take (i + 1) xs ≡ take i xs ++ x ∷ []
take-more xs i x d l e = rw add-one (take-suc xs i d l ∙ ap (λ y. take i xs ++ y ∷ []) (sym e))

-- reversed, one element more stands first
pub reverse-more : {X : Type 0} (xs : List X) (i : ℕ) (x d : X) → i < length xs → x ≡ get_or xs i d →
    reverse (take (i + 1) xs) ≡ x ∷ reverse (take i xs)
reverse-more xs i x d l e = ap reverse (take-more xs i x d l e) ∙ reverse-append (take i xs) (x ∷ [])

-- reversed, an element stands between those after it and those before it
pub reverse-at : {X : Type 0} (xs : List X) (i : ℕ) (x d : X) → i < length xs → x ≡ get_or xs i d →
    reverse xs ≡ reverse (drop (suc i) xs) ++ (x ∷ reverse (take i xs))
reverse-at xs i x d l e =
    ap reverse (sym (take-append-drop (i + 1) xs))
    ∙ (reverse-append (take (i + 1) xs) (drop (i + 1) xs) ∙ rw (reverse-more xs i x d l e, add-one) refl)

-- an element's number is below the length
pub slice_get-lt : {X : Type 0} (xs : List X) (k : ℕ) (x : X) → slice_get xs k ≡ Some x → k < length xs
slice_get-lt [] k x h = cc
slice_get-lt (y ∷ ys) zero x h = omega arith
slice_get-lt (y ∷ ys) (suc k) x h = omega (arith, slice_get-lt ys k x h)
