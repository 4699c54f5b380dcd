-- What one more key does to the map of the keys so far.
use Rattle.std.proofs.Common.{◌≡◌, ◌∙◌, ℕ, zero, suc, ◌+◌, ◌<◌, ◌≤◌, Bool, true, false, cond, ◌||◌, Option, Some, None, List, [], ◌∷◌, ◌++◌, length, get_or, refl, sym, ap, arith}
use Rattle.std.proofs.Math.Bool.{or-false}
use Rattle.std.proofs.lemmas.Bool.{false≢true}
use Rattle.std.proofs.lemmas.List.Folds.{list_any-append}
use Rattle.std.specs.List.{list_any, position_from}
use Rattle.std.specs.Option.{is_some, option_or}
use Rattle.std.specs.Map.{update}
use Rattle.std.specs.Str.{bytes_eq}
use Rattle.std.specs.Cmp.Lexicographic.{bytes_decides, nat_list_eq_equiv}

-- a test of one more item
pub any_more : {A : Type 0} (p : A → Bool) (xs : List A) (x : A) → list_any p (xs ++ x ∷ []) ≡ (list_any p xs || p x)
any_more p xs x = list_any-append p xs (x ∷ []) ∙ ap (λ (b : Bool). list_any p xs || b) (or-false (p x))

-- numbers
none_is : (o : Option ℕ) → is_some o ≡ false → o ≡ None
none_is None h = refl
none_is (Some x) h = absurd cc

mix_new : (c : Bool) (o : Option ℕ) (k : ℕ) → (c ≡ true → o ≡ None) → cond c (Some k) o ≡ option_or o (cond c (Some k) None)
mix_new true o k h = rw (h refl) refl
mix_new false None k h = refl
mix_new false (Some x) k h = refl

mix_old : (c : Bool) (o : Option ℕ) (k : ℕ) → (c ≡ true → is_some o ≡ true) → o ≡ option_or o (cond c (Some k) None)
mix_old true None k h = absurd (false≢true (h refl))
mix_old true (Some x) k h = refl
mix_old false None k h = refl
mix_old false (Some x) k h = refl

pub set_new : (f g : List ℕ → Option ℕ) (bs q : List ℕ) (k : ℕ) → is_some (f bs) ≡ false → g q ≡ update bytes_eq f bs (Some k) q
    → g q ≡ option_or (f q) (cond (bytes_eq q bs) (Some k) None)
set_new f g bs q k fresh h =
    let e = nat_list_eq_equiv.symm bs q in
    h ∙ rw e (mix_new (bytes_eq q bs) (f q) k (λ t. ap f ((bytes_decides q bs).0 t) ∙ none_is (f bs) fresh))

pub set_old : (f : List ℕ → Option ℕ) (bs q : List ℕ) (k : ℕ) → is_some (f bs) ≡ true
    → f q ≡ option_or (f q) (cond (bytes_eq q bs) (Some k) None)
set_old f bs q k known = mix_old (bytes_eq q bs) (f q) k (λ t. ap (λ (b : List ℕ). is_some (f b)) ((bytes_decides q bs).0 t) ∙ known)

number_case : (c : Bool) (n k : ℕ) (x y : Option ℕ) (d : Option ℕ) → x ≡ option_or y d → cond c (Some n) x ≡ option_or (cond c (Some n) y) d
number_case true n k x y d h = refl
number_case false n k x y d h = h

pub number_more : (n k : ℕ) (ps : List (List ℕ)) (p q : List ℕ) → k ≡ n + length ps
    → position_from (bytes_eq q) n (ps ++ p ∷ []) ≡ option_or (position_from (bytes_eq q) n ps) (cond (bytes_eq q p) (Some k) None)
number_more n k [] p q e = let f : n ≡ k = omega (arith, e) in rw f refl
number_more n k (r ∷ ps) p q e = number_case (bytes_eq q r) n k _ _ _ (number_more (n + 1) k ps p q (omega (arith, e)))

pub number_among : (n : ℕ) (names : List (List ℕ)) (q : List ℕ) → is_some (position_from (bytes_eq q) n names) ≡ list_any (bytes_eq q) names
number_among n [] q = refl
number_among n (p ∷ ps) q = among_case (bytes_eq q p) n _ _ (number_among (n + 1) ps q)
  where
    among_case : (c : Bool) (n : ℕ) (o : Option ℕ) (b : Bool) → is_some o ≡ b → is_some (cond c (Some n) o) ≡ (c || b)
    among_case true n o b h = refl
    among_case false n o b h = h

-- a number is below how many names there are
pub number_below : (n : ℕ) (names : List (List ℕ)) (q : List ℕ) (k : ℕ) → position_from (bytes_eq q) n names ≡ Some k → k < n + length names
number_below n [] q k is = absurd cc
number_below n (p ∷ ps) q k is = below_case (bytes_eq q p) n k (length ps) _ is (number_below (n + 1) ps q k)
  where
    below_case : (same : Bool) (n k m : ℕ) (o : Option ℕ) → cond same (Some n) o ≡ Some k → (o ≡ Some k → k < n + 1 + m) → k < n + suc m
    below_case true n k m o is later = let same : n ≡ k = cc in omega arith
    below_case false n k m o is later = let less : k < n + 1 + m = later is in omega arith

number_least : (n : ℕ) (names : List (List ℕ)) (q : List ℕ) (k : ℕ) → position_from (bytes_eq q) n names ≡ Some k → n ≤ k
number_least n [] q k is = absurd cc
number_least n (p ∷ ps) q k is = least_case (bytes_eq q p) n k _ is (number_least (n + 1) ps q k)
  where
    least_case : (same : Bool) (n k : ℕ) (o : Option ℕ) → cond same (Some n) o ≡ Some k → (o ≡ Some k → n + 1 ≤ k) → n ≤ k
    least_case true n k o is later = let same : n ≡ k = cc in omega arith
    least_case false n k o is later = let less : n + 1 ≤ k = later is in omega arith

is_first : (same : Bool) (n m : ℕ) (o : Option ℕ) → cond same (Some n) o ≡ Some m → m ≡ n + 0 → (o ≡ Some m → n + 1 ≤ m) → same ≡ true
is_first true n m o is e later = refl
is_first false n m o is e later = let less : n + 1 ≤ m = later is in absurd (omega arith)

is_later : (same : Bool) (n k m : ℕ) (o : Option ℕ) → cond same (Some n) o ≡ Some m → m ≡ n + suc k → o ≡ Some m
is_later true n k m o is e = let same : n ≡ m = cc in absurd (omega arith)
is_later false n k m o is e = is

-- the name that has a number stands there among the names
pub number_at : (n k : ℕ) (names : List (List ℕ)) (q : List ℕ) (m : ℕ) → position_from (bytes_eq q) n names ≡ Some m → m ≡ n + k → get_or names k [] ≡ q
number_at n k [] q m is e = absurd cc
number_at n zero (p ∷ ps) q m is e = sym ((bytes_decides q p).0 (is_first (bytes_eq q p) n m _ is e (number_least (n + 1) ps q m)))
number_at n (suc k) (p ∷ ps) q m is e = number_at (n + 1) k ps q m (is_later (bytes_eq q p) n k m _ is e) (omega arith)

-- two names with one number are the same
pub number_same : (names : List (List ℕ)) (p q : List ℕ) (k : ℕ) → position_from (bytes_eq p) 0 names ≡ Some k → position_from (bytes_eq q) 0 names ≡ Some k
    → bytes_eq p q ≡ true
number_same names p q k is_p is_q =
    (bytes_decides p q).1 (sym (number_at 0 k names p k is_p (omega arith)) ∙ number_at 0 k names q k is_q (omega arith))

pub number_in : (names : List (List ℕ)) (q : List ℕ) (k : ℕ) → position_from (bytes_eq q) 0 names ≡ Some k → k < length names
number_in names q k is = omega (arith, number_below 0 names q k is)
