-- One order more is one bit more.
use Rattle.std.proofs.Common.{◌≡◌, ◌+◌, ◌^◌, ℕ, suc, Bool, cond, ap, ◌∙◌, arith}
use Rattle.std.specs.Prelude.{bit_or}
use Rattle.duty_plan.specs.Labels.{bits_below, is_forced}
use Rattle.duty_plan.specs.Values.{pair_at}
use Rattle.duty_plan.specs.declared.deciding.Pair.{Pair}
use Rattle.duty_pricing.proofs.forcing.forced.Goals as goal

bits-more : (t : ℕ → Bool) (n bits more : ℕ) → bits ≡ bits_below t n → more ≡ cond (t n) (2 ^ n) 0 → bit_or bits more ≡ bits_below t (n + 1)
bits-more t n bits more e f =
    let one : suc n ≡ n + 1 = omega arith in
    ap (λ (x : ℕ). bit_or x more) e ∙ (ap (λ (x : ℕ). bit_or (bits_below t n) x) f ∙ ap (bits_below t) one)

pub loop-order-preserved : goal.loop-order-preserved
loop-order-preserved c =
    bits-more (λ (order : ℕ). is_forced (pair_at c.args.pairs.now c.args.driver order)) c.loop-order.order c.loop-order.bits c.forced_bit-bits.result
    c.loop-order.invariant (c.forced_bit-bits.ensures ∙ ap (λ (p : Pair). cond (is_forced p) (2 ^ c.loop-order.order) 0) c.pair.ensures)
