-- One slot more stands first in the chains of its minute and of its cell.
use Rattle.std.proofs.Common.{◌≡◌, ℕ, ap, ◌∙◌, ◌+◌, ◌<◌, ◌≤◌, List, length, refl, subst, sym, arith, set}
use Rattle.std.proofs.lemmas.List.{get_or_read}
use Rattle.duty_pricing.specs.declared.slots.Slot.{Slot}
use Rattle.duty_pricing.specs.Slots.{AreChained, minute_of, cell_at, cell_of}
use Rattle.duty_pricing.proofs.Links.{linked-push}
use Rattle.duty_pricing.proofs.stores.LabelStore.store.Goals as goal

pub returns-clause-chained : goal.returns-clause-chained
returns-clause-chained c =
    let minutes : length c.args.self.now.minutes.items ≡ 10081 = c.requires.room.minutes in
    let cells = c.requires.room.cells in
    let minute-low : c.args.label.now.clock.at < length c.args.self.now.minutes.items = (let low : c.args.label.now.clock.at ≤ 10080 = c.requires.minute in omega arith) in
    let cell-low : c.cell-cell.result < length c.args.self.now.cells.items = (let low = c.cell-cell.ensures.few in omega arith) in
    subst (λ (slots : List Slot). AreChained (set c.args.self.now.minutes.items c.args.label.now.clock.at (c.len-number.result + 1))
    (set c.args.self.now.cells.items c.cell-cell.result (c.len-number.result + 1)) slots) (sym (c.keep.ensures.pushed c.if-not-keep.false))
    (record {
      by_minute = linked-push minute_of (λ slot. slot.same_minute) c.args.self.now.minutes.items c.args.self.now.slots _ c.args.label.now.clock.at
          (c.len-number.result + 1) c.requires.chained.by_minute refl minute-low
          (get_or_read c.args.self.now.minutes.items _ _ minute-low c.index.ensures 0) (omega (arith, c.len-number.ensures.count));
      by_cell = linked-push cell_of (λ slot. slot.same_cell) c.args.self.now.cells.items c.args.self.now.slots _ c.cell-cell.result
          (c.len-number.result + 1) c.requires.chained.by_cell
          (ap (λ (hour : ℕ). cell_at c.args.label.now.place c.args.label.now.clock.half hour) (sym c.day_hour.ensures.is) ∙ sym c.cell-cell.ensures.is) cell-low
          (get_or_read c.args.self.now.cells.items _ _ cell-low c.index-2.ensures 0) (omega (arith, c.len-number.ensures.count));
    })
