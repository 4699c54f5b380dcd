-- What some lawful duties carry is carried once, and is of the week.
use Rattle.std.proofs.Common.{◌≡◌, ◌≢◌, ℕ, zero, suc, ◌+◌, ◌≤◌, ◌<◌, Bool, true, false, List, [], ◌∷◌, refl, arith, eqb, Some, slice_get}
use Rattle.std.proofs.lemmas.Bool.Decides.{nat_tests}
use Rattle.duty_plan.specs.declared.duties.Duty.{Duty}
use Rattle.duty_plan.specs.PartialDuties.{serves}
use Rattle.duty_plan.specs.Duties.{times, carried, orders_of, partial_of}
use Rattle.duty_plan.proofs.Sums.{times-append}
use Rattle.duty_plan.proofs.Carrying.{unserved}
use Rattle.price_master.proofs.Duality.{uncarried}

-- what duties carry that serve orders of the week alone are orders of the week
pub carried-known : (o n : ℕ) (duties : List Duty) →
    ((k : ℕ) (duty : Duty) → slice_get duties k ≡ Some duty → times o (orders_of (partial_of duty)) ≢ 0 → o < n) →
    times o (carried duties) ≢ 0 → o < n
carried-known o n [] each some = absurd (some refl)
carried-known o n (duty ∷ rest) each some = by_here (times o (orders_of (partial_of duty))) refl (λ t. carried-known o n rest (λ k d e. each (suc k) d e) t)
  where
    by_here : (t : ℕ) → times o (orders_of (partial_of duty)) ≡ t → (times o (carried rest) ≢ 0 → o < n) → o < n
    by_here zero e more =
        more (λ z. some (omega (arith, times-append o (orders_of (partial_of duty)) (carried rest))))
    by_here (suc t) e more = each 0 duty refl (λ z. omega arith)

-- no order is carried twice that at most one duty serves
pub carried-once : (o : ℕ) (duties : List Duty) →
    ((k : ℕ) (duty : Duty) → slice_get duties k ≡ Some duty → times o (orders_of (partial_of duty)) ≤ 1) →
    ((j k : ℕ) (d e : Duty) → slice_get duties j ≡ Some d → slice_get duties k ≡ Some e → serves o (partial_of d) ≡ true → serves o (partial_of e) ≡ true → j ≡ k) →
    times o (carried duties) ≤ 1
carried-once o [] each same = omega arith
carried-once o (duty ∷ rest) each same =
    by_here (serves o (partial_of duty)) refl
    (carried-once o rest (λ k d e. each (suc k) d e)
    (λ j k d e h i s t. let n : suc j ≡ suc k = same (suc j) (suc k) d e h i s t in omega arith))
  where
    idle : serves o (partial_of duty) ≡ true → (k : ℕ) (d : Duty) → slice_get rest k ≡ Some d → (b : Bool) → serves o (partial_of d) ≡ b → b ≡ false
    idle here k d h false e = refl
    idle here k d h true e = let n : 0 ≡ suc k = same 0 (suc k) duty d refl h here e in absurd (omega arith)

    by_here : (b : Bool) → serves o (partial_of duty) ≡ b → times o (carried rest) ≤ 1 → times o (carried (duty ∷ rest)) ≤ 1
    by_here false e more = omega (arith, times-append o (orders_of (partial_of duty)) (carried rest), unserved o (partial_of duty) e)
    by_here true e more =
        let none : times o (carried rest) ≡ 0 = uncarried o rest (λ k d h. idle e k d h (serves o (partial_of d)) refl) in
        omega (arith, times-append o (orders_of (partial_of duty)) (carried rest), each 0 duty refl)

-- what a list of numbers below n has is below n
pub listed-known : (n : ℕ) (xs : List ℕ) → ((k o : ℕ) → slice_get xs k ≡ Some o → o < n) → (o : ℕ) → times o xs ≢ 0 → o < n
listed-known n [] each o some = absurd (some refl)
listed-known n (x ∷ xs) each o some = by_test (eqb o x) refl (listed-known n xs (λ k p e. each (suc k) p e) o)
  where
    by_test : (b : Bool) → eqb o x ≡ b → (times o xs ≢ 0 → o < n) → o < n
    by_test true e more = let same : o ≡ x = grind (arith, nat_tests) in rw same (each 0 x refl)
    by_test false e more = let t : times o (x ∷ xs) ≡ 0 + times o xs = rw e refl in more (λ z. some (omega arith))
