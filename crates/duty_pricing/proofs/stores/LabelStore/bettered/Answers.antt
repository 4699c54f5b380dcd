-- The work day of a slot that betters the label began no sooner than the label's, and by the minute at which the label ends.
use Rattle.std.proofs.Common.{◌≡◌, ◌⊎◌, inl, inr, ◌+◌, ◌<◌, suc, ◌≤◌, ℕ, Bool, Some, slice_get, refl, sym, ap, ◌∙◌, arith}
use Rattle.dominance.specs.Reaching.{DominatesWithin}
use Rattle.duty_pricing.specs.declared.slots.Slot.{Slot}
use Rattle.duty_pricing.specs.Slots.{cell_at, cell_of, day_hour}
use Rattle.duty_pricing.proofs.Days.{hours-low, hours-rise}
use Rattle.duty_pricing.proofs.Links.{lt-or}
use Rattle.duty_pricing.proofs.Plain.{dominates-slot, slot-dominates}
use Rattle.duty_pricing.proofs.stores.LabelStore.bettered.Goals as goal

pub loop-hour-init : goal.loop-hour-init
loop-hour-init c = λ n slot l h early b.
    let later = hours-rise c.args.label.now.clock.day_from slot.label.clock.day_from b.clock.day_from in
    let first = c.day_hour-hour.ensures.is in
    omega (arith, early, later, first)

pub cell-cell-requires-clause-hour : goal.cell-cell-requires-clause-hour
cell-cell-requires-clause-hour c = let low : c.args.label.now.clock.at ≤ 10080 = c.requires.minute in let test = c.loop-hour-test.true in omega arith

pub loop-hour-preserved : goal.loop-hour-preserved
loop-hour-preserved c = λ n slot l h early b. by_hour n slot l h early b (lt-or (day_hour slot.label.clock.day_from) c.loop-hour.hour)
  where
    by_hour : (n : ℕ) (slot : Slot) → c.args.from ≤ n → slice_get c.args.self.now.slots n ≡ Some slot →
        day_hour slot.label.clock.day_from < c.loop-hour.hour + 1 → DominatesWithin slot.label c.args.label.now c.args.forced c.args.reach →
        (day_hour slot.label.clock.day_from < c.loop-hour.hour) ⊎ ((day_hour slot.label.clock.day_from ≡ c.loop-hour.hour)
        ⊎ (suc c.loop-hour.hour ≤ day_hour slot.label.clock.day_from)) → ⊥
    by_hour n slot l h early b (inl before) = c.loop-hour.invariant n slot l h before b
    by_hour n slot l h early b (inr (inl at)) =
        let same : cell_of slot ≡ cell_at c.args.label.now.place c.args.label.now.clock.half c.loop-hour.hour =
        ap (λ (p : ℕ). cell_at p slot.label.clock.half (day_hour slot.label.clock.day_from)) b.place
        ∙ (ap (λ (half : Bool). cell_at c.args.label.now.place half (day_hour slot.label.clock.day_from)) b.clock.half
        ∙ ap (λ (t : ℕ). cell_at c.args.label.now.place c.args.label.now.clock.half t) at) in
        c.bettered_in.ensures.none c.if-bettered_in.false n slot l h (same ∙ sym c.cell-cell.ensures.is) b
    by_hour n slot l h early b (inr (inr past)) = omega (arith, early, past)

pub returns-clause-none : goal.returns-clause-none
returns-clause-none c = λ _ n slot l h b.
    let sooner = b.clock.at in
    let low = hours-low slot.label.clock.day_from slot.label.clock.at (c.requires.days n slot h) in
    let end = c.loop-hour-test.false in
    c.loop-hour.invariant n slot l h (omega (arith, sooner, low, end)) b

pub returns-then-bettered_in-clause-plain : goal.returns-then-bettered_in-clause-plain
returns-then-bettered_in-clause-plain c = λ fronts h same among.
    let b = c.bettered_in.ensures.some c.if-bettered_in.true in (
      λ _. slot-dominates c.args.self.now.slots c.args.from c.args.forced c.args.reach c.args.label.now fronts h same among b.0 b.1 b.2 b.3 b.4,
      λ _. refl,
    )

pub returns-clause-plain : goal.returns-clause-plain
returns-clause-plain c = λ fronts h same among. (
  λ t. cc,
  λ d.
      absurd (dominates-slot c.args.self.now.slots c.args.from c.args.forced c.args.reach c.args.label.now fronts h same among d
      (returns-clause-none c refl)),
)
