-- The orders that a partial duty serves, bit by bit.
use Rattle.std.proofs.Common.{◌≡◌, ◌≢◌, ◌||◌, ℕ, zero, suc, ◌+◌, ◌^◌, ◌<◌, max, Bool, true, false, cond, [], ◌∷◌, refl, ap, sym, ◌∙◌, arith, eqb}
use Rattle.std.specs.Int.{bit_at}
use Rattle.std.proofs.lemmas.Bool.Decides.{nat_tests}
use Rattle.std.proofs.lemmas.Nat.Bits.{bit_at_or, bit_at-zero, bit_at-pow_same, bit_at-pow_other}
use Rattle.duty_plan.specs.declared.duties.Act.{Act}
use Rattle.duty_plan.specs.declared.duties.Act.TheVariants.{Leg, Serve, Load}
use Rattle.duty_plan.specs.PartialDuties.{PartialDuty, serves}
use Rattle.duty_plan.specs.Acts.{serves_order}
use Rattle.duty_plan.specs.Labels.{served_after, bit_of_act, bits_below}

bit-pow : (o p : ℕ) (b : Bool) → eqb o p ≡ b → bit_at (2 ^ p) o ≡ cond b 1 0
bit-pow o p true e = let same : o ≡ p = grind (arith, nat_tests) in ap (bit_at (2 ^ p)) same ∙ bit_at-pow_same p
bit-pow o p false e = let other : o ≢ p = grind (arith, nat_tests) in bit_at-pow_other p o other

bit-act : (o : ℕ) (act : Act) → bit_at (bit_of_act act) o ≡ cond (serves_order o act) 1 0
bit-act o (Leg to) = bit_at-zero o
bit-act o (Serve p) = bit-pow o p (eqb o p) refl
bit-act o Load = bit_at-zero o

max-bits : (a b : Bool) → max (cond b 1 0) (cond a 1 0) ≡ cond (a || b) 1 0
max-bits true true = refl
max-bits true false = refl
max-bits false true = refl
max-bits false false = refl

pub served_bits : (o : ℕ) (partial : PartialDuty) → bit_at (served_after partial) o ≡ cond (serves o partial) 1 0
served_bits o [] = bit_at-zero o
served_bits o (step ∷ before) =
    bit_at_or (served_after before) (bit_of_act step.act) o
    ∙ (ap (λ (x : ℕ). max x (bit_at (bit_of_act step.act) o)) (served_bits o before)
    ∙ (ap (λ (x : ℕ). max (cond (serves o before) 1 0) x) (bit-act o step.act)
    ∙ max-bits (serves_order o step.act) (serves o before)))

abbrev bit_if : (ℕ → Bool) → ℕ → ℕ
bit_if test n = cond (test n) (2 ^ n) 0

bit-if : (test : ℕ → Bool) (n k : ℕ) (b : Bool) → test n ≡ b → k ≢ n → bit_at (bit_if test n) k ≡ 0
bit-if test n k true e h = ap (λ (x : Bool). bit_at (cond x (2 ^ n) 0) k) e ∙ bit_at-pow_other n k h
bit-if test n k false e h = ap (λ (x : Bool). bit_at (cond x (2 ^ n) 0) k) e ∙ bit_at-zero k

bit-here : (test : ℕ → Bool) (n : ℕ) (b : Bool) → test n ≡ b → bit_at (bit_if test n) n ≡ cond (test n) 1 0
bit-here test n true e = ap (λ (x : Bool). bit_at (cond x (2 ^ n) 0) n) e ∙ (bit_at-pow_same n ∙ sym (ap (λ (x : Bool). cond x 1 0) e))
bit-here test n false e = ap (λ (x : Bool). bit_at (cond x (2 ^ n) 0) n) e ∙ (bit_at-zero n ∙ sym (ap (λ (x : Bool). cond x 1 0) e))

bits-past : (test : ℕ → Bool) (n k : ℕ) → n < k + 1 → bit_at (bits_below test n) k ≡ 0
bits-past test zero k l = bit_at-zero k
bits-past test (suc n) k l =
    let other : k ≢ n = omega arith in
    let before : bit_at (bits_below test n) k ≡ 0 = bits-past test n k (omega arith) in
    let here : bit_at (bit_if test n) k ≡ 0 = bit-if test n k (test n) refl other in
    bit_at_or (bits_below test n) (bit_if test n) k ∙ omega arith

bits-step : (test : ℕ → Bool) (n k : ℕ) (b : Bool) → eqb k n ≡ b → k < suc n → (k < n → bit_at (bits_below test n) k ≡ cond (test k) 1 0) →
    bit_at (bits_below test (suc n)) k ≡ cond (test k) 1 0
bits-step test n k true e l more =
    let same : n ≡ k = grind (arith, nat_tests) in
    let before : bit_at (bits_below test n) k ≡ 0 = bits-past test n k (omega arith) in
    let here : bit_at (bit_if test n) k ≡ cond (test k) 1 0 = ap (λ (x : ℕ). bit_at (bit_if test x) k) same ∙ bit-here test k (test k) refl in
    bit_at_or (bits_below test n) (bit_if test n) k ∙ omega arith
bits-step test n k false e l more =
    let other : k ≢ n = grind (arith, nat_tests) in
    let before : bit_at (bits_below test n) k ≡ cond (test k) 1 0 = more (omega arith) in
    let here : bit_at (bit_if test n) k ≡ 0 = bit-if test n k (test n) refl other in
    bit_at_or (bits_below test n) (bit_if test n) k ∙ omega arith

pub test_bits : (test : ℕ → Bool) (n k : ℕ) → k < n → bit_at (bits_below test n) k ≡ cond (test k) 1 0
test_bits test zero k l = absurd (omega arith)
test_bits test (suc n) k l = bits-step test n k (eqb k n) refl l (λ h. test_bits test n k h)
