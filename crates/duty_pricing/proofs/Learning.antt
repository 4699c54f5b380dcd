-- One label more in a pricing under way, and its value where it is that of a duty inside.
use Rattle.std.proofs.Common.{◌≡◌, ◌⊎◌, inl, inr, ℕ, ◌<◌, ◌≤◌, List, [], ◌∷◌, ◌++◌, length, ap, sym, subst, ◌∙◌, arith, Option, Some, slice_get}
use Rattle.std.specs.Prelude.{ℤ}
use Rattle.duty_plan.specs.declared.duties.Step.{Step}
use Rattle.duty_plan.specs.declared.labels.Label.{Label}
use Rattle.duty_plan.specs.PartialDuties.{place_after}
use Rattle.duty_plan.specs.Values.{IsInside}
use Rattle.duty_plan.specs.LabelLists.{Entry}
use Rattle.duty_plan.proofs.Lists.{slice_get-lt}
use Rattle.duty_pricing.specs.declared.asking.Asked.{Asked}
use Rattle.duty_pricing.specs.declared.stores.LabelStore.{LabelStore}
use Rattle.duty_pricing.specs.declared.slots.Slot.{Slot}
use Rattle.duty_label.specs.Pruning.{Knows}
use Rattle.duty_pricing.specs.Slots.{AreChained, AddsSlot, entries_of}
use Rattle.duty_pricing.specs.Storing.{IsNoHigher}
use Rattle.duty_pricing.specs.Searching.{IsBest, IsSearch, GrowsTo, Learns, MayAdd, entry_at}
use Rattle.duty_pricing.proofs.Elements.{get-push, get-last}
use Rattle.duty_pricing.proofs.Entries.{length-entries}
use Rattle.duty_pricing.proofs.Searching.{best-stays, entries-added, search-added}

some-same : {X : Type 0} (a b : X) → Some a ≡ Some b → a ≡ b
some-same a b h = cc

-- a slot more ends after the minute
added-late : (minute : ℕ) (label : Label) (step : Step) (n : ℕ) (old new : List Slot) → AddsSlot label step n old new → minute < label.clock.at →
    (k : ℕ) (slot : Slot) → length old ≤ k → slice_get new k ≡ Some slot → minute < slot.label.clock.at
added-late minute label step n old new a late k slot l e =
    by_last (get-push old a.slot k slot (ap (λ (s : List Slot). slice_get s k) (sym a.is) ∙ e))
  where
    by_last : (slice_get old k ≡ Some slot) ⊎ ((k ≡ length old) × (a.slot ≡ slot)) → minute < slot.label.clock.at
    by_last (inl h) = let below = slice_get-lt old k slot h in absurd (omega arith)
    by_last (inr z) =
        let same : slot.label ≡ label = ap (λ (s : Slot). s.label) (sym z.1) ∙ a.label_is in
        let at : slot.label.clock.at ≡ label.clock.at = ap (λ (x : Label). x.clock.at) same in omega arith

pub added-grows : (minute : ℕ) (old new : LabelStore) (n : ℕ) (step : Step) (label : Label) → AddsSlot label step n old.slots new.slots →
    minute < label.clock.at → IsNoHigher old.known new.known → GrowsTo minute old new
added-grows minute old new n step label a late low = record {
  more = a.slot ∷ [];
  is = a.is;
  low = low;
  late = added-late minute label step n old.slots new.slots a late;
}

-- one label more, which is no duty inside
pub search-stored : (asked : Asked) (minute : ℕ) (old new : LabelStore) (n : ℕ) (step : Step) (label : Label) → IsSearch asked minute old →
    MayAdd asked minute old n step label → AddsSlot label step n old.slots new.slots → AreChained new.minutes.items new.cells.items new.slots →
    length new.minutes.items ≡ length old.minutes.items → length new.cells.items ≡ length old.cells.items → new.known ≡ old.known →
    new.best ≡ old.best → (place_after (entry_at old n step label).partial ≡ 0 →
    IsInside asked.case.now.week asked.pairs.now asked.driver (entry_at old n step label).partial → ⊥) → IsSearch asked minute new
search-stored asked minute old new n step label s m a chained minutes cells known best outside =
    search-added asked minute old new n step label s m a chained minutes cells
    (λ v l. subst (λ (o : Option ℤ). Knows o v) (sym known) l) (λ home inside. absurd (outside home inside))
    (λ value h.
    subst (λ (b : Option ℕ). IsBest asked (entries_of new.slots) b value) (sym best)
    (best-stays asked minute old new old.best value
    (added-grows minute old new n step label a m.later (λ v l. subst (λ (o : Option ℤ). Knows o v) (sym known) l)) (s.has_best value (sym known ∙ h))))

-- one label more, which is a duty inside whose value was learnt
pub search-learned : (asked : Asked) (minute : ℕ) (old mid new : LabelStore) (n : ℕ) (step : Step) (label : Label) (number : ℕ) → IsSearch asked minute old →
    MayAdd asked minute old n step label → AddsSlot label step n old.slots mid.slots → AreChained mid.minutes.items mid.cells.items mid.slots →
    length mid.minutes.items ≡ length old.minutes.items → length mid.cells.items ≡ length old.cells.items → mid.known ≡ old.known →
    mid.best ≡ old.best → number ≡ length old.slots → Learns mid new label.value number →
    place_after (entry_at old n step label).partial ≡ 0 →
    IsInside asked.case.now.week asked.pairs.now asked.driver (entry_at old n step label).partial → IsSearch asked minute new
search-learned asked minute old mid new n step label number s m a chained minutes cells known best last l home inside =
    search-added asked minute old new n step label s m added all_chained (ap (λ (v : List ℕ). length v) l.same_minutes ∙ minutes)
    (ap (λ (v : List ℕ). length v) l.same_cells ∙ cells) low
    (λ h i. subst (λ (v : ℤ). Knows new.known v) m.is_entry.label.value l.as_low) by_from
  where
    added : AddsSlot label step n old.slots new.slots
    added = subst (λ (slots : List Slot). AddsSlot label step n old.slots slots) (sym l.same_slots) a

    all_chained : AreChained new.minutes.items new.cells.items new.slots
    all_chained =
        subst (λ (slots : List Slot). AreChained new.minutes.items new.cells.items slots) (sym l.same_slots)
        (subst (λ (v : List ℕ). AreChained new.minutes.items v mid.slots) (sym l.same_cells)
        (subst (λ (v : List ℕ). AreChained v mid.cells.items mid.slots) (sym l.same_minutes) chained))

    low : IsNoHigher old.known new.known
    low v h = l.low v (subst (λ (o : Option ℤ). Knows o v) (sym known) h)

    grows : GrowsTo minute old new
    grows = added-grows minute old new n step label added m.later low

    entries : entries_of new.slots ≡ entries_of old.slots ++ entry_at old n step label ∷ []
    entries = entries-added old n step label new.slots m.from m.is_from added

    by_from : (value : ℤ) → new.known ≡ Some value → IsBest asked (entries_of new.slots) new.best value
    by_from value h = elim l.from [
      | inl same ↦
          subst (λ (b : Option ℕ). IsBest asked (entries_of new.slots) b value) (sym (same.1 ∙ best))
          (best-stays asked minute old new old.best value grows (s.has_best value (sym known ∙ (sym same.0 ∙ h))))
      | inr one ↦
          let value_is : label.value ≡ value = some-same label.value value (sym one.0 ∙ h) in
          subst (λ (b : Option ℕ). IsBest asked (entries_of new.slots) b value) (sym one.1) (record {
            entry = entry_at old n step label;
            is_entry =
                ap (slice_get (entries_of new.slots)) (last ∙ sym (length-entries old.slots))
                ∙ (ap (λ (es : List Entry). slice_get es (length (entries_of old.slots))) entries ∙ get-last (entries_of old.slots) _);
            home = home;
            inside = inside;
            has_value = sym m.is_entry.label.value ∙ value_is;
          })
    ]

-- and what was learnt is as low as what was known
pub learned-grows : (minute : ℕ) (old mid new : LabelStore) (n : ℕ) (step : Step) (label : Label) (value : ℤ) (number : ℕ) →
    AddsSlot label step n old.slots mid.slots → mid.known ≡ old.known → Learns mid new value number → minute < label.clock.at → GrowsTo minute old new
learned-grows minute old mid new n step label value number a known l late =
    added-grows minute old new n step label (subst (λ (slots : List Slot). AddsSlot label step n old.slots slots) (sym l.same_slots) a) late
    (λ v h. l.low v (subst (λ (o : Option ℤ). Knows o v) (sym known) h))
