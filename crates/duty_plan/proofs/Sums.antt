-- Sums over lists of orders and over the numbers below n.
use Rattle.std.proofs.Common.{◌≡◌, ◌≢◌, ℕ, zero, suc, ◌+◌, ◌≤◌, ◌<◌, Bool, true, false, cond, List, [], ◌∷◌, ◌++◌, refl, ap, arith, eqb}
use Rattle.std.proofs.lemmas.Bool.Decides.{nat_tests}
use Rattle.duty_plan.specs.Duties.{times, worth}
use Rattle.duty_plan.specs.Sums.{total_below}

pub worth-append : (f : ℕ → ℕ) (xs ys : List ℕ) → worth f (xs ++ ys) ≡ worth f xs + worth f ys
worth-append f [] ys = omega arith
worth-append f (x ∷ xs) ys = omega (arith, worth-append f xs ys)

pub times-append : (o : ℕ) (xs ys : List ℕ) → times o (xs ++ ys) ≡ times o xs + times o ys
times-append o [] ys = omega arith
times-append o (x ∷ xs) ys = omega (arith, times-append o xs ys)

-- what the copies of one order in a list are worth
abbrev pub share : (ℕ → ℕ) → ℕ → List ℕ → ℕ
share f o [] = 0
share f o (x ∷ xs) = cond (eqb o x) (f x) 0 + share f o xs

share-none_step : (f : ℕ → ℕ) (o x : ℕ) (xs : List ℕ) (b : Bool) → eqb o x ≡ b → times o (x ∷ xs) ≡ 0 →
    (times o xs ≡ 0 → share f o xs ≡ 0) → share f o (x ∷ xs) ≡ 0
share-none_step f o x xs true e h more = let bad : times o (x ∷ xs) ≡ 1 + times o xs = rw e refl in absurd (omega arith)
share-none_step f o x xs false e h more =
    let t : times o (x ∷ xs) ≡ 0 + times o xs = rw e refl in rw e (omega (arith, more (omega arith)))

pub share-none : (f : ℕ → ℕ) (o : ℕ) (xs : List ℕ) → times o xs ≡ 0 → share f o xs ≡ 0
share-none f o [] h = refl
share-none f o (x ∷ xs) h = share-none_step f o x xs (eqb o x) refl h (λ t. share-none f o xs t)

share-one_step : (f : ℕ → ℕ) (o x : ℕ) (xs : List ℕ) (b : Bool) → eqb o x ≡ b → times o (x ∷ xs) ≡ 1 →
    (times o xs ≡ 1 → share f o xs ≡ f o) → share f o (x ∷ xs) ≡ f o
share-one_step f o x xs true e h more =
    let t : times o (x ∷ xs) ≡ 1 + times o xs = rw e refl in
    let same : o ≡ x = grind (arith, nat_tests) in
    rw e (omega (arith, share-none f o xs (omega arith), ap f same))
share-one_step f o x xs false e h more =
    let t : times o (x ∷ xs) ≡ 0 + times o xs = rw e refl in rw e (omega (arith, more (omega arith)))

pub share-one : (f : ℕ → ℕ) (o : ℕ) (xs : List ℕ) → times o xs ≡ 1 → share f o xs ≡ f o
share-one f o [] h = absurd (omega arith)
share-one f o (x ∷ xs) h = share-one_step f o x xs (eqb o x) refl h (λ t. share-one f o xs t)

pub total-mono : (f g : ℕ → ℕ) (n : ℕ) → ((o : ℕ) → o < n → f o ≤ g o) → total_below f n ≤ total_below g n
total-mono f g zero h = omega arith
total-mono f g (suc n) h = omega (arith, h n (omega arith), total-mono f g n (λ o l. h o (omega arith)))

pub total-same : (f g : ℕ → ℕ) (n : ℕ) → ((o : ℕ) → o < n → f o ≡ g o) → total_below f n ≡ total_below g n
total-same f g zero h = refl
total-same f g (suc n) h = omega (arith, h n (omega arith), total-same f g n (λ o l. h o (omega arith)))

pub total-add : (f g : ℕ → ℕ) (n : ℕ) → total_below (λ o. f o + g o) n ≡ total_below f n + total_below g n
total-add f g zero = omega arith
total-add f g (suc n) = omega (arith, total-add f g n)

pub total-zero : (f : ℕ → ℕ) (n : ℕ) → ((o : ℕ) → o < n → f o ≡ 0) → total_below f n ≡ 0
total-zero f zero h = refl
total-zero f (suc n) h = omega (arith, h n (omega arith), total-zero f n (λ o l. h o (omega arith)))

-- one order, over all
total-one_past : (f : ℕ → ℕ) (x n : ℕ) → n ≤ x → total_below (λ o. cond (eqb o x) (f x) 0) n ≡ 0
total-one_past f x n l = total-zero _ n (λ o h. grind (arith, nat_tests))

abbrev only : (ℕ → ℕ) → ℕ → ℕ → ℕ
only f x o = cond (eqb o x) (f x) 0

total-one_le_step : (f : ℕ → ℕ) (x n : ℕ) (b : Bool) → eqb n x ≡ b → total_below (only f x) n ≤ f x → total_below (only f x) (suc n) ≤ f x
total-one_le_step f x n true e more =
    let same : n ≡ x = grind (arith, nat_tests) in rw e (omega (arith, total-one_past f x n (omega arith)))
total-one_le_step f x n false e more = rw e (omega arith)

pub total-one_le : (f : ℕ → ℕ) (x n : ℕ) → total_below (λ o. cond (eqb o x) (f x) 0) n ≤ f x
total-one_le f x zero = omega arith
total-one_le f x (suc n) = total-one_le_step f x n (eqb n x) refl (total-one_le f x n)

total-one_step : (f : ℕ → ℕ) (x n : ℕ) (b : Bool) → eqb n x ≡ b → x < suc n → (x < n → total_below (only f x) n ≡ f x) →
    total_below (only f x) (suc n) ≡ f x
total-one_step f x n true e l more =
    let same : n ≡ x = grind (arith, nat_tests) in rw e (omega (arith, total-one_past f x n (omega arith)))
total-one_step f x n false e l more =
    let other : n ≢ x = grind (arith, nat_tests) in rw e (omega (arith, more (omega arith)))

pub total-one : (f : ℕ → ℕ) (x n : ℕ) → x < n → total_below (λ o. cond (eqb o x) (f x) 0) n ≡ f x
total-one f x zero l = absurd (omega arith)
total-one f x (suc n) l = total-one_step f x n (eqb n x) refl l (λ h. total-one f x n h)

-- what all orders' copies are worth
pub total-share_le : (f : ℕ → ℕ) (n : ℕ) (xs : List ℕ) → total_below (λ o. share f o xs) n ≤ worth f xs
total-share_le f n [] = omega (arith, total-zero (λ o. 0) n (λ o l. refl))
total-share_le f n (x ∷ xs) =
    omega (arith, total-add (λ o. cond (eqb o x) (f x) 0) (λ o. share f o xs) n, total-one_le f x n, total-share_le f n xs)

-- the same, exactly, where all orders are below n
pub total-share : (f : ℕ → ℕ) (n : ℕ) (xs : List ℕ) → ((o : ℕ) → times o xs ≢ 0 → o < n) → total_below (λ o. share f o xs) n ≡ worth f xs
total-share f n [] h = total-zero (λ o. 0) n (λ o l. refl)
total-share f n (x ∷ xs) h =
    let one : total_below (λ o. cond (eqb o x) (f x) 0) n ≡ f x = total-one f x n (h x (λ z. first_there z)) in
    let more : total_below (λ o. share f o xs) n ≡ worth f xs = total-share f n xs (λ o t. h o (λ z. t (omega arith))) in
    omega (arith, total-add (λ o. cond (eqb o x) (f x) 0) (λ o. share f o xs) n)
  where
    first_there : times x (x ∷ xs) ≡ 0 → ⊥
    first_there z = let e : eqb x x ≡ true = grind (arith, nat_tests) in let t : times x (x ∷ xs) ≡ 1 + times x xs = rw e refl in omega arith
