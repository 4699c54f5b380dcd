-- The answer by the links between slots is that of the plain store.
use Rattle.std.proofs.Common.{◌≡◌, ℕ, zero, suc, ◌≤◌, ◌<◌, List, Some, slice_get, refl, sym, subst, arith}
use Rattle.std.specs.Int.{bit_at}
use Rattle.std.proofs.lemmas.Nat.Bits.{bit_at-lt}
use Rattle.duty_plan.specs.declared.labels.Label.{Label}
use Rattle.duty_plan.specs.Labels.{Dominates}
use Rattle.dominance.specs.declared.storing.Fronts.{Fronts}
use Rattle.dominance.specs.Storing.{IsDominated}
use Rattle.dominance.specs.Reaching.{DominatesWithin}
use Rattle.dominance.proofs.Simulating.{betters_within_any}
use Rattle.duty_pricing.specs.declared.slots.Slot.{Slot}
use Rattle.duty_pricing.specs.Plain.{HoldsSlots, ServeAmong}

-- where each order that the better label serves is in reach, it betters the other whatever the reach
in-reach : (a b : Label) (forced reach : ℕ) → ((order : ℕ) → bit_at a.served order ≡ 1 → bit_at reach order ≡ 1) →
    DominatesWithin a b forced reach → Dominates a b forced
in-reach a b forced reach serves d = record {
  clock = d.clock;
  place = d.place;
  used = d.used;
  value = d.value;
  loaded = d.loaded;
  among = λ order. each order (bit_at a.served order) refl (bit_at-lt a.served order);
  agree = d.agree;
}
  where
    each : (order bit : ℕ) → bit_at a.served order ≡ bit → bit < 2 → bit_at a.served order ≤ bit_at b.served order
    each order zero e _ = omega (arith, e)
    each order (suc zero) e _ = d.among order (serves order e)
    each order (suc (suc _)) _ low = absurd (omega (arith, low))

module _ (slots : List Slot) (from forced reach : ℕ) (label : Label) (fronts : Fronts) (h : HoldsSlots fronts slots from)
    (same : fronts.forced ≡ forced) (among : ServeAmong slots reach) where
  -- a slot that betters the label is held by the plain store
  pub slot-dominates : (n : ℕ) (slot : Slot) → from ≤ n → slice_get slots n ≡ Some slot → DominatesWithin slot.label label forced reach →
      IsDominated fronts label
  slot-dominates n slot l is d = (
    slot.label,
    (h.holds slot.label).1 (n, slot, l, is, refl),
    h.begun slot.label (n, slot, l, is, refl),
    subst (λ (f : ℕ). Dominates slot.label label f) (sym same)
        (in-reach slot.label label forced reach (λ order bit. among n order slot is bit) d),
  )

  -- a label of the plain store that betters the label is a slot's
  pub dominates-slot : IsDominated fronts label →
      ((n : ℕ) (slot : Slot) → from ≤ n → slice_get slots n ≡ Some slot → DominatesWithin slot.label label forced reach → ⊥) → ⊥
  dominates-slot d none =
      let at = (h.holds d.0).0 d.1 in
      let better : Dominates at.1.label label fronts.forced = subst (λ (x : Label). Dominates x label fronts.forced) (sym at.4) d.3 in
      none at.0 at.1 at.2 at.3
      (betters_within_any at.1.label label forced reach (subst (λ (f : ℕ). Dominates at.1.label label f) same better))
