-- How large prices and sums of values may be.
use Rattle.std.proofs.Common.{◌≡◌, ℕ, ◌+◌, ◌*◌, ◌<◌, Bool, true, false, List, [], ◌∷◌, ◌++◌, length, take, get_or, refl, ap, sym, ◌∙◌, arith, ℤ, pos, neg_ℤ, ◌+ℤ◌, ◌≤ℤ◌, FitsSigned, to_z, of_z, w64}
use Rattle.std.proofs.lemmas.Int.{ints}
use Rattle.std.proofs.lemmas.Option.{slice_get-get_or}
use Rattle.duty_plan.specs.Values.{all_below, sum_of}
use Rattle.duty_plan.proofs.Lists.{take-more}
use Rattle.price_master.specs.Valuing.{IsModest, AreModest}
use Rattle.price_master.proofs.Duality.{all-at}

-- a test that fails below n doesn't hold below n
pub all-fails : (test : ℕ → Bool) (n k : ℕ) → k < n → test k ≡ false → all_below test n ≡ false
all-fails test n k l e = by_test (all_below test n) refl
  where
    by_test : (b : Bool) → all_below test n ≡ b → all_below test n ≡ false
    by_test false h = h
    by_test true h = let yes = all-at test n k h l in cc

sum-append : (xs : List ℤ) (y : ℤ) → sum_of (xs ++ y ∷ []) ≡ sum_of xs +ℤ y
sum-append [] y = omega (arith, ints)
sum-append (x ∷ xs) y = omega (arith, ints, sum-append xs y)

-- a sum of values, one value more
pub sum-more : (xs : List ℤ) (i : ℕ) (sum x d : ℤ) → sum ≡ sum_of (take i xs) → i < length xs → x ≡ get_or xs i d → (sum +ℤ x) ≡ sum_of (take (i + 1) xs)
sum-more xs i sum x d e l is =
    ap (λ (z : ℤ). z +ℤ x) e ∙ (sym (sum-append (take i xs) x) ∙ ap sum_of (sym (take-more xs i x d l is)))

-- an element that a place has is modest
pub modest-at : (xs : List ℤ) (i : ℕ) (d : ℤ) → AreModest xs → i < length xs → IsModest (get_or xs i d)
modest-at xs i d m l = m i (get_or xs i d) (slice_get-get_or xs i d l)

-- a sum of modest values and one more fit
pub added-fits : (sum value : ℤ) (i : ℕ) → neg_ℤ (pos (i * 1099511627776)) ≤ℤ sum → sum ≤ℤ pos (i * 1099511627776) → i < 16 → IsModest value →
    FitsSigned w64 (sum +ℤ to_z w64 (of_z w64 value))
added-fits sum value i low high l m = let a = m.low in let b = m.high in omega (arith, ints)

pub added : (sum value : ℤ) (i : ℕ) → neg_ℤ (pos (i * 1099511627776)) ≤ℤ sum → sum ≤ℤ pos (i * 1099511627776) → i < 16 → IsModest value →
    to_z w64 (of_z w64 (sum +ℤ to_z w64 (of_z w64 value))) ≡ (sum +ℤ value)
added sum value i low high l m = let a = m.low in let b = m.high in omega (arith, ints)
