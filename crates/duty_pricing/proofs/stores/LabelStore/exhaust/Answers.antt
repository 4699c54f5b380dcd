-- The slots of a minute more are done with.
use Rattle.duty_plan.specs.declared.labels.Label.{Label}
use Rattle.std.proofs.Common.{suc, ◌+◌, ◌≡◌, ◌⊎◌, inl, inr, ◌<◌, ◌≤◌, ℕ, Some, slice_get, ap, arith}
use Rattle.duty_pricing.specs.declared.slots.Slot.{Slot}
use Rattle.duty_pricing.specs.Visiting.{IsDoneAt}
use Rattle.duty_pricing.proofs.Entries.{slot-of}
use Rattle.duty_pricing.proofs.Links.{lt-or}
use Rattle.duty_pricing.proofs.Visiting.{done-stays, old-or-late, search-later, slot-low}
use Rattle.duty_pricing.proofs.stores.LabelStore.exhaust.Goals as goal

pub loop-minute-preserved : goal.loop-minute-preserved
loop-minute-preserved c = record {
  open_still = c.visit_minute.ensures.open c.if-not-visit_minute.false;
  search = search-later c.args.asked.now c.loop-minute.minute (c.loop-minute.minute + 1) c.visit_minute.new.self (omega arith) c.visit_minute.ensures.search;
  done = λ n slot h l. by_minute n slot h l (old-or-late c.loop-minute.minute c.loop-minute.self c.visit_minute.new.self n slot c.visit_minute.ensures.grows h) (lt-or slot.label.clock.at c.loop-minute.minute);
}
  where
    by_minute : (n : ℕ) (slot : Slot) → slice_get c.visit_minute.new.self.slots n ≡ Some slot → slot.label.clock.at < c.loop-minute.minute + 1 →
        (slice_get c.loop-minute.self.slots n ≡ Some slot) ⊎ (c.loop-minute.minute < slot.label.clock.at) →
        (slot.label.clock.at < c.loop-minute.minute) ⊎ ((slot.label.clock.at ≡ c.loop-minute.minute) ⊎ (suc c.loop-minute.minute ≤ slot.label.clock.at)) → IsDoneAt c.args.asked.now c.visit_minute.new.self n
    by_minute n slot h l (inr late) o = absurd (omega arith)
    by_minute n slot h l (inl old) (inl before) =
        done-stays c.args.asked.now c.loop-minute.minute c.loop-minute.self c.visit_minute.new.self n slot c.visit_minute.ensures.grows old (c.loop-minute.invariant.done n slot old before)
    by_minute n slot h l (inl old) (inr (inl at)) = c.visit_minute.ensures.done c.if-not-visit_minute.false n slot h at
    by_minute n slot h l (inl old) (inr (inr past)) = absurd (omega arith)

pub returns-clause-done : goal.returns-clause-done
returns-clause-done c = λ _ n e h.
    let found = slot-of c.loop-minute.self.slots n e h in
    let low = slot-low c.args.asked.now c.loop-minute.minute c.loop-minute.self n e c.loop-minute.invariant.search h in
    let same = ap (λ (l : Label). l.clock.at) found.2 in
    c.loop-minute.invariant.done n found.0 found.1 (omega (arith, c.loop-minute-test.false, low, same)) e h
