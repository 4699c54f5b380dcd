-- The least number that passes a test.
use Rattle.std.proofs.Common.{◌≡◌, ℕ, zero, suc, ◌+◌, ◌<◌, Bool, true, false, Option, Some, None, refl, ap, sym, ◌∙◌, arith, eqb}
use Rattle.std.proofs.lemmas.Bool.Decides.{nat_tests}
use Rattle.duty_plan.specs.Verdicts.{least_below}

pub least-none : (test : ℕ → Bool) (n : ℕ) → ((k : ℕ) → k < n → test k ≡ false) → least_below test n ≡ None
least-none test zero h = refl
least-none test (suc n) h = rw (least-none test n (λ k l. h k (omega arith)), h n (omega arith)) refl

-- what stands for the numbers below n stands for those below one more
least-before : (test : ℕ → Bool) (n : ℕ) (found : Option ℕ) → least_below test n ≡ found → least_below test (suc n) ≡ None →
    (least_below test n ≡ None) × (test n ≡ false)
least-before test n (Some k) e h = let bad : least_below test (suc n) ≡ Some k = rw e refl in cc
least-before test n None e h = by_test (test n) refl
  where
    by_test : (b : Bool) → test n ≡ b → (least_below test n ≡ None) × (test n ≡ false)
    by_test true t = let bad : least_below test (suc n) ≡ Some n = rw (e, t) refl in cc
    by_test false t = (e, t)

pub none-least : (test : ℕ → Bool) (n k : ℕ) → least_below test n ≡ None → k < n → test k ≡ false
none-least test zero k h l = absurd (omega arith)
none-least test (suc n) k h l = by_here (eqb k n) refl (λ s. none-least test n k (least-before test n (least_below test n) refl h).0 s)
  where
    by_here : (b : Bool) → eqb k n ≡ b → (k < n → test k ≡ false) → test k ≡ false
    by_here true e more =
        let same : k ≡ n = grind (arith, nat_tests) in ap test same ∙ (least-before test n (least_below test n) refl h).1
    by_here false e more = let below : k < n = grind (arith, nat_tests) in more below

pub least-found : (test : ℕ → Bool) (n k : ℕ) → least_below test k ≡ None → test k ≡ true → k < n → least_below test n ≡ Some k
least-found test zero k h t l = absurd (omega arith)
least-found test (suc n) k h t l = by_here (eqb k n) refl (λ s. least-found test n k h t s)
  where
    by_here : (b : Bool) → eqb k n ≡ b → (k < n → least_below test n ≡ Some k) → least_below test (suc n) ≡ Some k
    by_here true e more =
        let same : k ≡ n = grind (arith, nat_tests) in
        let none : least_below test n ≡ None = ap (least_below test) (sym same) ∙ h in
        let passes : test n ≡ true = ap test (sym same) ∙ t in
        rw (none, passes) (ap Some (sym same))
    by_here false e more = let below : k < n = grind (arith, nat_tests) in rw (more below) refl

pub least-more : (test : ℕ → Bool) (n : ℕ) → least_below test n ≡ None → test n ≡ false → least_below test (n + 1) ≡ None
least-more test n h t = let one : n + 1 ≡ suc n = omega arith in rw (one, h, t) refl

pub some-eqb : (n : ℕ) → (n ≡ 0 → ⊥) → eqb n 0 ≡ false
some-eqb zero h = absurd (h refl)
some-eqb (suc n) h = grind (arith, nat_tests)
