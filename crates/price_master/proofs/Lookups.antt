-- Looking up in a list with one element changed, with more elements after it, and from some element on; and numbers, compared.
use Rattle.std.proofs.Common.{◌≡◌, ◌≢◌, ◌⊎◌, inl, inr, ℕ, zero, suc, ◌+◌, ◌<◌, ◌≤◌, List, [], ◌∷◌, ◌++◌, length, drop, get_or, set, map, refl, ap, sym, ◌∙◌, arith, Some, slice_get, length-append}
use Rattle.std.proofs.lemmas.Option.{slice_get_read}

pub get-set_same : {X : Type 0} (xs : List X) (i : ℕ) (x : X) → i < length xs → slice_get (set xs i x) i ≡ Some x
get-set_same [] i x l = absurd (omega arith)
get-set_same (y ∷ ys) zero x l = refl
get-set_same (y ∷ ys) (suc i) x l = get-set_same ys i x (omega arith)

pub get-set_other : {X : Type 0} (xs : List X) (i k : ℕ) (x : X) → k ≢ i → slice_get (set xs i x) k ≡ slice_get xs k
get-set_other [] i k x n = refl
get-set_other (y ∷ ys) zero zero x n = absurd (n refl)
get-set_other (y ∷ ys) zero (suc k) x n = refl
get-set_other (y ∷ ys) (suc i) zero x n = refl
get-set_other (y ∷ ys) (suc i) (suc k) x n = get-set_other ys i k x (λ e. n (ap suc e))

pub length-set_lem : {X : Type 0} (xs : List X) (i : ℕ) (x : X) → length (set xs i x) ≡ length xs
length-set_lem [] i x = refl
length-set_lem (y ∷ ys) zero x = refl
length-set_lem (y ∷ ys) (suc i) x = omega (arith, length-set_lem ys i x)

pub get-before : {X : Type 0} (xs ys : List X) (k : ℕ) → k < length xs → slice_get (xs ++ ys) k ≡ slice_get xs k
get-before [] ys k l = absurd (omega arith)
get-before (x ∷ xs) ys zero l = refl
get-before (x ∷ xs) ys (suc k) l = get-before xs ys k (omega arith)

pub get-after : {X : Type 0} (xs ys : List X) (n k : ℕ) → n ≡ length xs + k → slice_get (xs ++ ys) n ≡ slice_get ys k
get-after [] ys n k e = ap (slice_get ys) (omega arith)
get-after (x ∷ xs) ys zero k e = absurd (omega arith)
get-after (x ∷ xs) ys (suc n) k e = get-after xs ys n k (omega arith)

pub get-map : {X Y : Type 0} (f : X → Y) (xs : List X) (k : ℕ) (x : X) → slice_get xs k ≡ Some x → slice_get (map f xs) k ≡ Some (f x)
get-map f [] k x e = cc
get-map f (y ∷ ys) zero x e = let same : y ≡ x = cc in ap (λ z. Some (f z)) same
get-map f (y ∷ ys) (suc k) x e = get-map f ys k x e

pub length-map_lem : {X Y : Type 0} (f : X → Y) (xs : List X) → length (map f xs) ≡ length xs
length-map_lem f [] = refl
length-map_lem f (x ∷ xs) = omega (arith, length-map_lem f xs)

pub same-or-not : (a b : ℕ) → (a ≡ b) ⊎ (a ≢ b)
same-or-not zero zero = inl refl
same-or-not zero (suc b) = inr (λ e. absurd (omega arith))
same-or-not (suc a) zero = inr (λ e. absurd (omega arith))
same-or-not (suc a) (suc b) = by_rest (same-or-not a b)
  where
    by_rest : (a ≡ b) ⊎ (a ≢ b) → (suc a ≡ suc b) ⊎ (suc a ≢ suc b)
    by_rest (inl e) = inl (ap suc e)
    by_rest (inr n) = inr (λ e. n (omega arith))

pub at-most : (j n : ℕ) → (j ≤ n) ⊎ (n < j)
at-most zero n = inl (omega arith)
at-most (suc j) zero = inr (omega arith)
at-most (suc j) (suc n) = by_rest (at-most j n)
  where
    by_rest : (j ≤ n) ⊎ (n < j) → (suc j ≤ suc n) ⊎ (suc n < suc j)
    by_rest (inl g) = inl (omega arith)
    by_rest (inr g) = inr (omega arith)

-- an element of a list with one more at its end
abbrev pub EarlierOrLast : {X : Type 0} → List X → X → ℕ → X → Type 0
EarlierOrLast xs x k y = ((k < length xs) × (slice_get xs k ≡ Some y)) ⊎ ((k ≡ length xs) × (x ≡ y))

pub split : {X : Type 0} (xs : List X) (x y : X) (k : ℕ) → slice_get (xs ++ x ∷ []) k ≡ Some y → EarlierOrLast xs x k y
split [] x y zero h = inr (refl, let g = h in cc)
split [] x y (suc k) h = cc
split (z ∷ xs) x y zero h = inl (omega arith, h)
split (z ∷ xs) x y (suc k) h = by_rest (split xs x y k h)
  where
    by_rest : EarlierOrLast xs x k y → EarlierOrLast (z ∷ xs) x (suc k) y
    by_rest (inl g) = inl (omega arith, g.1)
    by_rest (inr g) = inr (omega arith, g.1)

pub last-there : {X : Type 0} (xs : List X) (x : X) → slice_get (xs ++ x ∷ []) (length xs) ≡ Some x
last-there xs x = get-after xs (x ∷ []) (length xs) 0 (omega arith)

pub one-more : {X : Type 0} (xs : List X) (x : X) → length (xs ++ x ∷ []) ≡ suc (length xs)
one-more xs x = let one : length (x ∷ []) ≡ 1 = omega arith in omega (arith, length-append xs (x ∷ []))

-- where a list begins
pub drop-at : {X : Type 0} (xs : List X) (n : ℕ) (x : X) → slice_get xs n ≡ Some x → drop n xs ≡ x ∷ drop (n + 1) xs
drop-at [] n x e = cc
drop-at {X = X} (y ∷ ys) zero x e = let same : y ≡ x = cc in ap (λ (z : X). z ∷ ys) same
drop-at (y ∷ ys) (suc n) x e = let next : suc (n + 1) ≡ suc n + 1 = omega arith in drop-at ys n x e ∙ ap (λ (m : ℕ). x ∷ drop m (y ∷ ys)) next

-- a list that begins where another is dropped
pub begins : {X : Type 0} (xs : List X) (n : ℕ) (x : X) (ys : List X) → x ∷ ys ≡ drop n xs → (slice_get xs n ≡ Some x) × (ys ≡ drop (n + 1) xs)
begins [] zero x ys e = cc
begins [] (suc n) x ys e = cc
begins {X = X} (z ∷ zs) zero x ys e =
    let one : x ≡ z = cc in
    let others : ys ≡ zs = cc in
    (ap (λ (w : X). Some w) (sym one), others)
begins (z ∷ zs) (suc n) x ys e =
    let more = begins zs n x ys e in
    let next : suc (n + 1) ≡ suc n + 1 = omega arith in
    (more.0, more.1 ∙ ap (λ (m : ℕ). drop m (z ∷ zs)) next)

-- the element that a loop reads
pub element-at : {X : Type 0} (xs : List X) (n : ℕ) (x y : X) → n < length xs → x ≡ get_or xs n x → y ≡ x → slice_get xs n ≡ Some y
element-at {X = X} xs n x y l e same = slice_get_read xs (length xs) n x refl l e ∙ ap (λ (z : X). Some z) (sym same)
