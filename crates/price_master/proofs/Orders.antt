-- Orders put together.
use Rattle.std.proofs.Common.{◌≡◌, ℕ, true, eqb, ap, ◌∙◌, arith, bit_and, bit_or}
use Rattle.std.specs.Int.{bit_at}
use Rattle.std.proofs.lemmas.Bool.Decides.{nat_tests}
use Rattle.std.proofs.lemmas.Nat.{and_comm, or_comm}
use Rattle.std.proofs.lemmas.Nat.Bits.{bit_at_and, bit_at_or, bit_at-zero, same_from_bits}
use Rattle.price_master.specs.Pools.{are_apart}

-- what is apart from some orders is apart from fewer
pub apart-fewer : (s x b : ℕ) → are_apart (bit_or s x) b ≡ true → are_apart s b ≡ true
apart-fewer s x b e =
    let none : bit_and (bit_or s x) b ≡ 0 = grind (arith, nat_tests) in
    ap (λ (y : ℕ). eqb y 0) (same_from_bits (bit_and s b) 0
    (λ o. omega (arith, bit_at_and s b o, bit_at_and (bit_or s x) b o, bit_at_or s x o, ap (λ (y : ℕ). bit_at y o) none, bit_at-zero o)))

pub or-swap : (a b c : ℕ) → bit_or (bit_or a b) c ≡ bit_or (bit_or a c) b
or-swap a b c = same_from_bits (bit_or (bit_or a b) c) (bit_or (bit_or a c) b)
    (λ o. omega (arith, bit_at_or (bit_or a b) c o, bit_at_or a b o, bit_at_or (bit_or a c) b o, bit_at_or a c o))

pub apart-swap : (a b : ℕ) → are_apart a b ≡ true → are_apart b a ≡ true
apart-swap a b e = ap (λ (y : ℕ). eqb y 0) (and_comm b a) ∙ e

-- what is apart from both is apart from them together
pub apart-both : (a b x : ℕ) → are_apart a x ≡ true → are_apart b x ≡ true → are_apart (bit_or a b) x ≡ true
apart-both a b x e f =
    let one : bit_and a x ≡ 0 = grind (arith, nat_tests) in
    let other : bit_and b x ≡ 0 = grind (arith, nat_tests) in
    ap (λ (y : ℕ). eqb y 0) (same_from_bits (bit_and (bit_or a b) x) 0
    (λ o. omega (
      arith,
      bit_at_and (bit_or a b) x o,
      bit_at_or a b o,
      bit_at_and a x o,
      bit_at_and b x o,
      ap (λ (y : ℕ). bit_at y o) one,
      ap (λ (y : ℕ). bit_at y o) other,
      bit_at-zero o,
    )))

pub apart-second : (a b x : ℕ) → are_apart (bit_or a b) x ≡ true → are_apart b x ≡ true
apart-second a b x e = apart-fewer b a x (ap (λ (y : ℕ). are_apart y x) (or_comm b a) ∙ e)

-- the third goes with the first two as the second does
pub apart-turn : (s x o : ℕ) → are_apart s x ≡ true → are_apart (bit_or s x) o ≡ true → are_apart (bit_or s o) x ≡ true
apart-turn s x o one both = apart-both s o x one (apart-swap x o (apart-second s x o both))

-- what is apart from itself is nothing
pub apart-self : (x : ℕ) → are_apart x x ≡ true → x ≡ 0
apart-self x e =
    let none : bit_and x x ≡ 0 = grind (arith, nat_tests) in
    same_from_bits x 0 (λ o. omega (arith, bit_at_and x x o, ap (λ (y : ℕ). bit_at y o) none, bit_at-zero o))
