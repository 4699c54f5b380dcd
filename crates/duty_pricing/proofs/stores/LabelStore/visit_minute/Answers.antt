-- A walk down the slots of the minute.
use Rattle.std.proofs.Common.{◌≡◌, inl, inr, ◌-◌, ℕ, List, Some, slice_get, refl, sym, ap, ◌∙◌, subst, arith}
use Rattle.duty_pricing.specs.declared.slots.Slot.{Slot}
use Rattle.duty_pricing.specs.Slots.{minute_of}
use Rattle.duty_pricing.specs.Searching.{GrowsTo, IsSearch}
use Rattle.duty_pricing.specs.Visiting.{IsDoneAt}
use Rattle.duty_pricing.proofs.Elements.{get-longer}
use Rattle.duty_pricing.proofs.Entries.{entry-of}
use Rattle.duty_pricing.proofs.Links.{walk-begins, walk-down, walk-with, walk-slot}
use Rattle.duty_pricing.proofs.Searching.{grows-same, grows-twice}
use Rattle.duty_pricing.proofs.Visiting.{done-stays, old-or-late}
use Rattle.duty_pricing.proofs.stores.LabelStore.visit_minute.Goals as goal

pub loop-link-init : goal.loop-link-init
loop-link-init c = record {
  open_still = c.requires.open;
  search = c.requires.search;
  grows = grows-same c.args.minute c.args.self.now c.args.self.now refl refl;
  walked = walk-begins minute_of (λ s. s.same_minute) c.args.self.now.minutes.items c.args.self.now.slots c.args.minute c.last_at-link.result _
      c.requires.search.chained.by_minute (omega (arith, c.requires.search.minutes_all, c.requires.minute)) c.last_at-link.ensures;
}

pub visit-requires-clause-search : goal.visit-requires-clause-search
visit-requires-clause-search c =
    let read : slice_get c.loop-link.self.slots (c.loop-link.link - 1) ≡ Some c.in-Some.slot = sym c.slot.ensures ∙ c.in-Some.is in
    let found = walk-slot minute_of c.args.self.now.slots c.loop-link.invariant.grows.more c.args.minute c.loop-link.link (λ n s. IsDoneAt c.args.asked.now c.loop-link.self n) c.in-Some.slot c.loop-link.invariant.walked (omega arith)
    (sym (ap (λ (s : List Slot). slice_get s (c.loop-link.link - 1)) c.loop-link.invariant.grows.is) ∙ read) in
    subst (λ (m : ℕ). IsSearch c.args.asked.now m c.loop-link.self) (sym found.1) c.loop-link.invariant.search

pub visit-requires-clause-from : goal.visit-requires-clause-from
visit-requires-clause-from c =
    let read : slice_get c.loop-link.self.slots (c.loop-link.link - 1) ≡ Some c.in-Some.slot = sym c.slot.ensures ∙ c.in-Some.is in
    let e = entry-of c.loop-link.self.slots (c.loop-link.link - 1) c.in-Some.slot read in
    record { entry = e.0; is_entry = e.1; is_label = e.2 }

pub returns-then-not-visit-clause-search : goal.returns-then-not-visit-clause-search
returns-then-not-visit-clause-search c =
    let read : slice_get c.loop-link.self.slots (c.loop-link.link - 1) ≡ Some c.in-Some.slot = sym c.slot.ensures ∙ c.in-Some.is in
    let found = walk-slot minute_of c.args.self.now.slots c.loop-link.invariant.grows.more c.args.minute c.loop-link.link (λ n s. IsDoneAt c.args.asked.now c.loop-link.self n) c.in-Some.slot c.loop-link.invariant.walked (omega arith)
    (sym (ap (λ (s : List Slot). slice_get s (c.loop-link.link - 1)) c.loop-link.invariant.grows.is) ∙ read) in
    subst (λ (m : ℕ). IsSearch c.args.asked.now m c.visit.new.self) found.1 c.visit.ensures.search

pub returns-then-not-visit-clause-grows : goal.returns-then-not-visit-clause-grows
returns-then-not-visit-clause-grows c =
    let read : slice_get c.loop-link.self.slots (c.loop-link.link - 1) ≡ Some c.in-Some.slot = sym c.slot.ensures ∙ c.in-Some.is in
    let found = walk-slot minute_of c.args.self.now.slots c.loop-link.invariant.grows.more c.args.minute c.loop-link.link (λ n s. IsDoneAt c.args.asked.now c.loop-link.self n) c.in-Some.slot c.loop-link.invariant.walked (omega arith)
    (sym (ap (λ (s : List Slot). slice_get s (c.loop-link.link - 1)) c.loop-link.invariant.grows.is) ∙ read) in
    let step : GrowsTo c.args.minute c.loop-link.self c.visit.new.self = subst (λ (m : ℕ). GrowsTo m c.loop-link.self c.visit.new.self) found.1 c.visit.ensures.grows in
    grows-twice c.args.minute c.args.self.now c.loop-link.self c.visit.new.self c.loop-link.invariant.grows step

pub loop-link-smaller : goal.loop-link-smaller
loop-link-smaller c =
    let read : slice_get c.loop-link.self.slots (c.loop-link.link - 1) ≡ Some c.in-Some.slot = sym c.slot.ensures ∙ c.in-Some.is in
    let found = walk-slot minute_of c.args.self.now.slots c.loop-link.invariant.grows.more c.args.minute c.loop-link.link (λ n s. IsDoneAt c.args.asked.now c.loop-link.self n) c.in-Some.slot c.loop-link.invariant.walked (omega arith)
    (sym (ap (λ (s : List Slot). slice_get s (c.loop-link.link - 1)) c.loop-link.invariant.grows.is) ∙ read) in
    let step : GrowsTo c.args.minute c.loop-link.self c.visit.new.self = subst (λ (m : ℕ). GrowsTo m c.loop-link.self c.visit.new.self) found.1 c.visit.ensures.grows in
    let lasts = walk-with minute_of c.args.self.now.slots c.args.minute c.loop-link.link (λ n s. IsDoneAt c.args.asked.now c.loop-link.self n) (λ n s. IsDoneAt c.args.asked.now c.visit.new.self n)
    (λ n s h d. done-stays c.args.asked.now c.args.minute c.loop-link.self c.visit.new.self n s step
    (ap (λ (xs : List Slot). slice_get xs n) c.loop-link.invariant.grows.is ∙ get-longer c.args.self.now.slots c.loop-link.invariant.grows.more n s h) d) c.loop-link.invariant.walked in
    let down = walk-down minute_of (λ s. s.same_minute) c.args.self.now.minutes.items c.args.self.now.slots c.args.minute c.loop-link.link c.in-Some.slot.same_minute c.in-Some.slot
    (λ n s. IsDoneAt c.args.asked.now c.visit.new.self n) c.requires.search.chained.by_minute lasts (omega arith) found.0
    (c.visit.ensures.done c.if-not-visit.false) refl in
    down.1

pub loop-link-preserved : goal.loop-link-preserved
loop-link-preserved c =
    let read : slice_get c.loop-link.self.slots (c.loop-link.link - 1) ≡ Some c.in-Some.slot = sym c.slot.ensures ∙ c.in-Some.is in
    let found = walk-slot minute_of c.args.self.now.slots c.loop-link.invariant.grows.more c.args.minute c.loop-link.link (λ n s. IsDoneAt c.args.asked.now c.loop-link.self n) c.in-Some.slot c.loop-link.invariant.walked (omega arith)
    (sym (ap (λ (s : List Slot). slice_get s (c.loop-link.link - 1)) c.loop-link.invariant.grows.is) ∙ read) in
    let step : GrowsTo c.args.minute c.loop-link.self c.visit.new.self = subst (λ (m : ℕ). GrowsTo m c.loop-link.self c.visit.new.self) found.1 c.visit.ensures.grows in
    let lasts = walk-with minute_of c.args.self.now.slots c.args.minute c.loop-link.link (λ n s. IsDoneAt c.args.asked.now c.loop-link.self n) (λ n s. IsDoneAt c.args.asked.now c.visit.new.self n)
    (λ n s h d. done-stays c.args.asked.now c.args.minute c.loop-link.self c.visit.new.self n s step
    (ap (λ (xs : List Slot). slice_get xs n) c.loop-link.invariant.grows.is ∙ get-longer c.args.self.now.slots c.loop-link.invariant.grows.more n s h) d) c.loop-link.invariant.walked in
    let down = walk-down minute_of (λ s. s.same_minute) c.args.self.now.minutes.items c.args.self.now.slots c.args.minute c.loop-link.link c.in-Some.slot.same_minute c.in-Some.slot
    (λ n s. IsDoneAt c.args.asked.now c.visit.new.self n) c.requires.search.chained.by_minute lasts (omega arith) found.0
    (c.visit.ensures.done c.if-not-visit.false) refl in
    record {
      open_still = c.visit.ensures.open c.if-not-visit.false;
      search = subst (λ (m : ℕ). IsSearch c.args.asked.now m c.visit.new.self) found.1 c.visit.ensures.search;
      grows = grows-twice c.args.minute c.args.self.now c.loop-link.self c.visit.new.self c.loop-link.invariant.grows step;
      walked = down.0;
    }

pub returns-clause-done : goal.returns-clause-done
returns-clause-done c = λ _ n slot h at.
    elim (old-or-late c.args.minute c.args.self.now c.loop-link.self n slot c.loop-link.invariant.grows h) [
      | inl old ↦ c.loop-link.invariant.walked.passed n slot (omega (arith, c.loop-link-test.false)) old at
      | inr late ↦ absurd (omega arith)
    ]
