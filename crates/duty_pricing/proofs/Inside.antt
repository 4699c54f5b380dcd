-- The forced orders and the served ones, bit by bit.
use Rattle.std.proofs.Common.{◌≡◌, ◌≢◌, inl, inr, ℕ, zero, suc, ◌^◌, ◌<◌, ◌≤◌, Bool, true, false, cond, length, refl, ap, ◌∙◌, arith}
use Rattle.std.specs.Int.{bit_at}
use Rattle.std.proofs.lemmas.Bool.{cases_lt}
use Rattle.std.proofs.lemmas.Nat.Bits.{bit_at_or, bit_at-zero, bit_at-pow_other}
use Rattle.duty_plan.specs.declared.plans.Case.{Case}
use Rattle.duty_plan.specs.declared.deciding.Pair.{Pair}
use Rattle.duty_plan.specs.declared.deciding.Pair.TheVariants.{Free, Forced, Barred}
use Rattle.duty_plan.specs.declared.deciding.Pairs.{Pairs}
use Rattle.duty_plan.specs.declared.pricing.Prices.{Prices}
use Rattle.duty_plan.specs.declared.labels.Label.{Label}
use Rattle.duty_plan.specs.PartialDuties.{PartialDuty, serves}
use Rattle.duty_plan.specs.Values.{IsInside, pair_at}
use Rattle.duty_plan.specs.Labels.{bits_below, forced_orders, is_forced}
use Rattle.duty_plan.proofs.Bits.{served_bits, test_bits}
use Rattle.duty_label.specs.Children.{HasLabel}
use Rattle.dominance.specs.Reaching.{ServesNoBarred}

bit-if : (test : Bool) (n k : ℕ) → k ≢ n → bit_at (cond test (2 ^ n) 0) k ≡ 0
bit-if true n k h = bit_at-pow_other n k h
bit-if false n k h = bit_at-zero k

bits-past : (test : ℕ → Bool) (n k : ℕ) → n ≤ k → bit_at (bits_below test n) k ≡ 0
bits-past test zero k l = bit_at-zero k
bits-past test (suc n) k l =
    let other : k ≢ n = omega arith in
    let before : bit_at (bits_below test n) k ≡ 0 = bits-past test n k (omega arith) in
    let here : bit_at (cond (test n) (2 ^ n) 0) k ≡ 0 = bit-if (test n) n k other in
    bit_at_or (bits_below test n) (cond (test n) (2 ^ n) 0) k ∙ omega arith

module _ (case : Case) (driver : ℕ) (pairs : Pairs) (prices : Prices) (partial : PartialDuty) (label : Label) (has : HasLabel case driver prices partial label) where
  bit-forced : (o : ℕ) → o < length case.week.orders → bit_at (forced_orders case.week pairs driver) o ≡ cond (is_forced (pair_at pairs driver o)) 1 0
  bit-forced o l = test_bits (λ x. is_forced (pair_at pairs driver x)) (length case.week.orders) o l

  bit-served : (o : ℕ) → bit_at label.served o ≡ cond (serves o partial) 1 0
  bit-served o = ap (λ (x : ℕ). bit_at x o) has.label_of.served ∙ served_bits o partial

  -- where all forced orders are served, the partial duty is inside, if it keeps off the barred ones
  pub all-inside : ServesNoBarred case.week pairs driver partial → ((o : ℕ) → bit_at (forced_orders case.week pairs driver) o ≤ bit_at label.served o) →
      IsInside case.week pairs driver partial
  all-inside keeps all = record { forced = λ o l p. by_serves o l p (serves o partial) refl; barred = keeps }
    where
      by_serves : (o : ℕ) → o < length case.week.orders → pair_at pairs driver o ≡ Forced → (b : Bool) → serves o partial ≡ b → b ≡ true
      by_serves o l p true e = refl
      by_serves o l p false e =
          let is : bit_at (forced_orders case.week pairs driver) o ≡ 1 = bit-forced o l ∙ ap (λ (x : Pair). cond (is_forced x) 1 0) p in
          let none : bit_at label.served o ≡ 0 = bit-served o ∙ ap (λ (b : Bool). cond b 1 0) e in
          absurd (omega (arith, all o))

  -- and the other way round
  pub inside-all : IsInside case.week pairs driver partial → (o : ℕ) → bit_at (forced_orders case.week pairs driver) o ≤ bit_at label.served o
  inside-all inside o = elim (cases_lt o (length case.week.orders)) [
    | inl l ↦ by_pair l (pair_at pairs driver o) refl
    | inr past ↦ omega (arith, bits-past (λ x. is_forced (pair_at pairs driver x)) (length case.week.orders) o past)
  ]
    where
      none : o < length case.week.orders → is_forced (pair_at pairs driver o) ≡ false →
          bit_at (forced_orders case.week pairs driver) o ≤ bit_at label.served o
      none l e = omega (arith, bit-forced o l ∙ ap (λ (b : Bool). cond b 1 0) e)

      by_pair : o < length case.week.orders → (p : Pair) → pair_at pairs driver o ≡ p →
          bit_at (forced_orders case.week pairs driver) o ≤ bit_at label.served o
      by_pair l Free e = none l (ap is_forced e)
      by_pair l Barred e = none l (ap is_forced e)
      by_pair l Forced e =
          omega (arith, bit-forced o l ∙ ap (λ (p : Pair). cond (is_forced p) 1 0) e, bit-served o ∙ ap (λ (b : Bool). cond b 1 0) (inside.forced o l e))
