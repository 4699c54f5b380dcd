-- Orders as bits: those that are among others, also where only some count, and those that are the same where they are forced.
use Rattle.std.proofs.Common.{◌≡◌, ℕ, ◌+◌, ◌-◌, ◌%◌, ◌^◌, ◌<◌, ◌≤◌, min, zero, suc, bit_and, ◌⊎◌, inl, inr, refl, ap, sym, ◌∙◌, arith}
use Rattle.std.specs.Int.{bit_at, w128}
use Rattle.std.specs.Int.RustNames.{bit_xor}
use Rattle.std.proofs.lemmas.Bool.{cases_lt}
use Rattle.std.proofs.lemmas.Nat.{and_le_l}
use Rattle.std.proofs.lemmas.Nat.Bits.{bit_at_and, bit_at_xor, bit_at_not, bit_at-zero, bit_at-lt, bit_at_above, same_from_bits}

-- the bits of `a & !b`, below and above the word's end
left_over : (a b i : ℕ) → b < 2 ^ 128 → i < 128 → bit_at (bit_and a (2 ^ 128 - 1 - b)) i ≡ min (bit_at a i) (1 - bit_at b i)
left_over a b i fits low =
    bit_at_and a (2 ^ 128 - 1 - b) i ∙ ap (λ (x : ℕ). min (bit_at a i) x) (bit_at_not w128 b i fits low)

above : (a c i : ℕ) → a < 2 ^ 128 → 128 ≤ i → bit_at (bit_and a c) i ≡ 0
above a c i fits high =
    let none : bit_at a i ≡ 0 = bit_at_above a 128 i fits high in
    bit_at_and a c i ∙ omega (arith, none)

pub among_from : (a b i : ℕ) → a < 2 ^ 128 → b < 2 ^ 128 → bit_and a (2 ^ 128 - 1 - b) ≡ 0 → bit_at a i ≤ bit_at b i
among_from a b i fa fb none = elim (cases_lt i 128) [
  | inl low ↦
      let over : min (bit_at a i) (1 - bit_at b i) ≡ 0
      = sym (left_over a b i fb low) ∙ (ap (λ (x : ℕ). bit_at x i) none ∙ bit_at-zero i) in
      omega (arith, over, bit_at-lt a i, bit_at-lt b i)
  | inr high ↦ omega (arith, bit_at_above a 128 i fa high)
]

pub none_over : (a b : ℕ) → a < 2 ^ 128 → b < 2 ^ 128 → ((i : ℕ) → bit_at a i ≤ bit_at b i) → bit_and a (2 ^ 128 - 1 - b) ≡ 0
none_over a b fa fb among = same_from_bits (bit_and a (2 ^ 128 - 1 - b)) 0 (λ i. each i (cases_lt i 128) ∙ sym (bit_at-zero i))
  where
    each : (i : ℕ) → (i < 128) ⊎ (128 ≤ i) → bit_at (bit_and a (2 ^ 128 - 1 - b)) i ≡ 0
    each i (inl low) = left_over a b i fb low ∙ omega (arith, among i, bit_at-lt a i, bit_at-lt b i)
    each i (inr high) = above a (2 ^ 128 - 1 - b) i fa high

-- the bits of `a & reach & !b`
counted : (a reach i : ℕ) → bit_at (bit_and a reach) i ≡ min (bit_at a i) (bit_at reach i)
counted a reach i = bit_at_and a reach i

fits : (a reach : ℕ) → a < 2 ^ 128 → bit_and a reach < 2 ^ 128
fits a reach fa = omega (arith, fa, and_le_l a reach)

pub among_within_from : (a b reach i : ℕ) → a < 2 ^ 128 → b < 2 ^ 128 → bit_and (bit_and a reach) (2 ^ 128 - 1 - b) ≡ 0 →
    bit_at reach i ≡ 1 → bit_at a i ≤ bit_at b i
among_within_from a b reach i fa fb none r =
    omega (arith, counted a reach i, r, bit_at-lt a i, among_from (bit_and a reach) b i (fits a reach fa) fb none)

pub none_over_within : (a b reach : ℕ) → a < 2 ^ 128 → b < 2 ^ 128 → ((i : ℕ) → bit_at reach i ≡ 1 → bit_at a i ≤ bit_at b i) →
    bit_and (bit_and a reach) (2 ^ 128 - 1 - b) ≡ 0
none_over_within a b reach fa fb among = none_over (bit_and a reach) b (fits a reach fa) fb (λ i. each i (bit_at reach i) refl (bit_at-lt reach i))
  where
    each : (i r : ℕ) → bit_at reach i ≡ r → r < 2 → bit_at (bit_and a reach) i ≤ bit_at b i
    each i zero e _ = omega (arith, counted a reach i, e)
    each i (suc zero) e _ = omega (arith, counted a reach i, among i e)
    each i (suc (suc _)) _ low = absurd (omega (arith, low))

-- the bits of `(a ^ b) & forced`
differing : (a b forced i : ℕ) → bit_at (bit_and (bit_xor a b) forced) i ≡ min ((bit_at a i + bit_at b i) % 2) (bit_at forced i)
differing a b forced i =
    bit_at_and (bit_xor a b) forced i ∙ ap (λ (x : ℕ). min x (bit_at forced i)) (bit_at_xor a b i)

pub agree_from : (a b forced i : ℕ) → bit_and (bit_xor a b) forced ≡ 0 → bit_at forced i ≡ 1 → bit_at a i ≡ bit_at b i
agree_from a b forced i none is_forced =
    let same : min ((bit_at a i + bit_at b i) % 2) (bit_at forced i) ≡ 0
    = sym (differing a b forced i) ∙ (ap (λ (x : ℕ). bit_at x i) none ∙ bit_at-zero i) in
    omega (arith, same, bit_at-lt a i, bit_at-lt b i)

pub none_differ : (a b forced : ℕ) → ((i : ℕ) → bit_at forced i ≡ 1 → bit_at a i ≡ bit_at b i) →
    bit_and (bit_xor a b) forced ≡ 0
none_differ a b forced agree =
    same_from_bits (bit_and (bit_xor a b) forced) 0 (λ i. each i (bit_at forced i) refl (bit_at-lt forced i) ∙ sym (bit_at-zero i))
  where
    each : (i f : ℕ) → bit_at forced i ≡ f → f < 2 → bit_at (bit_and (bit_xor a b) forced) i ≡ 0
    each i zero e _ = differing a b forced i ∙ omega (arith, e)
    each i (suc zero) e _ =
        let same : bit_at a i ≡ bit_at b i = agree i e in differing a b forced i ∙ omega (arith, same)
    each i (suc (suc _)) _ low = absurd (omega (arith, low))
