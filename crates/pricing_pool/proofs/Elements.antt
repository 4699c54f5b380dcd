-- Facts on each element of a list, by its place.
use Rattle.std.proofs.Common.{◌≡◌, All, ℕ, zero, suc, ◌<◌, List, [], ◌∷◌, ◌++◌, length, ap, sym, ◌∙◌, subst, arith, length-append, refl, get_or, Some, slice_get}
use Rattle.std.proofs.Math.ListN.{get_or-append, take}
use Rattle.std.proofs.Math.Seq.{get_or-append_seam, take-append_seam}
use Rattle.duty_plan.specs.Duties.{EachOf}

pub some-same : {X : Type 0} (a b : X) → Some a ≡ Some b → a ≡ b
some-same a b h = cc

-- one element more
pub each-push : {X : Type 0} (P : ℕ → X → Type 0) (xs : List X) (x : X) → EachOf P xs → P (length xs) x → EachOf P (xs ++ x ∷ [])
each-push P [] x all here zero y h = subst (P 0) (some-same x y h) here
each-push P [] x all here (suc n) y h = cc
each-push P (z ∷ zs) x all here zero y h = all 0 y h
each-push P (z ∷ zs) x all here (suc n) y h = each-push (λ k. P (suc k)) zs x (λ k w i. all (suc k) w i) here n y h

-- the last of one element is all
pub last-alone : {X : Type 0} (xs : List X) (x : X) (ys : List X) → ys ≡ xs ++ x ∷ [] → length ys ≡ 1 → ys ≡ x ∷ []
last-alone [] x ys is one = is
last-alone (z ∷ zs) x ys is one = absurd (let long = ap (λ w. length w) is ∙ length-append (z ∷ zs) (x ∷ []) in omega arith)

-- what holds of all holds of the only one
pub all-only : {X : Type 0} (P : X → Type 0) (xs : List X) (x : X) → xs ≡ x ∷ [] → All P xs → P x
all-only P xs x is all = let one = subst (All P) is all in one 0 x (omega arith)

-- what holds of all but the last, and of the last
pub all-front : {X : Type 0} (P : X → Type 0) (xs : List X) (x : X) → All P (xs ++ x ∷ []) → All P xs
all-front P xs x all k d l =
    subst P (get_or-append xs (x ∷ []) d k l) (all k d (omega (arith, length-append xs (x ∷ []))))

pub all-last : {X : Type 0} (P : X → Type 0) (xs : List X) (x : X) → All P (xs ++ x ∷ []) → P x
all-last P xs x all =
    subst P (get_or-append_seam xs x [] x) (all (length xs) x (omega (arith, length-append xs (x ∷ []))))

-- an element by its place, with some other one past the end
pub got-at : {X : Type 0} (xs : List X) (n : ℕ) (x d : X) → slice_get xs n ≡ Some x → get_or xs n d ≡ x
got-at [] n x d h = cc
got-at (y ∷ ys) zero x d h = some-same y x h
got-at (y ∷ ys) (suc n) x d h = got-at ys n x d h

pub get-at : {X : Type 0} (xs : List X) (n : ℕ) (d : X) → n < length xs → slice_get xs n ≡ Some (get_or xs n d)
get-at [] n d l = absurd (omega arith)
get-at (y ∷ ys) zero d l = refl
get-at (y ∷ ys) (suc n) d l = get-at ys n d (omega arith)

-- a list is what is taken of it and more
pub taken : {X : Type 0} (xs zs : List X) (n : ℕ) → n ≡ length xs → take n (xs ++ zs) ≡ xs
taken xs zs n is = subst (λ k. take k (xs ++ zs) ≡ xs) (sym is) (take-append_seam xs zs)
