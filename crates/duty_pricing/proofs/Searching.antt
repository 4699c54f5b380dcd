-- One label more in a pricing under way.
use Rattle.std.proofs.Common.{◌≡◌, ◌≢◌, ◌⊎◌, inl, inr, ℕ, ◌<◌, ◌≤◌, List, [], ◌∷◌, ◌++◌, length, ap, sym, subst, ◌∙◌, arith, append_assoc, Option, None, Some, slice_get}
use Rattle.std.specs.Prelude.{ℤ}
use Rattle.std.proofs.lemmas.List.{append-nil}
use Rattle.duty_plan.specs.declared.duties.Step.{Step}
use Rattle.duty_plan.specs.declared.labels.Label.{Label}
use Rattle.duty_plan.specs.Labels.{Dominates, forced_orders}
use Rattle.duty_plan.specs.LabelLists.{Entry, IsLabelList}
use Rattle.duty_plan.proofs.Lists.{slice_get-lt}
use Rattle.duty_pricing.specs.declared.asking.Asked.{Asked}
use Rattle.duty_pricing.specs.declared.stores.LabelStore.{LabelStore}
use Rattle.duty_pricing.specs.declared.slots.Slot.{Slot}
use Rattle.duty_label.specs.Pruning.{Knows}
use Rattle.duty_pricing.specs.Exhausting.{IsKnown}
use Rattle.duty_pricing.specs.Slots.{AreChained, AddsSlot, entry_after, entries_of, partial_or_none}
use Rattle.duty_pricing.specs.Storing.{AreExtendedBy, IsNoHigher}
use Rattle.duty_pricing.specs.Searching.{IsBest, IsSearch, GrowsTo, MayExtend, MayAdd, entry_at}
use Rattle.std.proofs.lemmas.Bool.{cases_lt}
use Rattle.duty_pricing.proofs.Elements.{get-same}
use Rattle.duty_pricing.proofs.Elements.{get-longer, get-push}
use Rattle.duty_pricing.proofs.Entries.{entries-push, entries-more, later-entry}
use Rattle.duty_pricing.proofs.Storing.{list-push, extended-push}

-- the entries after one slot more
pub entries-added : (store : LabelStore) (n : ℕ) (step : Step) (label : Label) (slots : List Slot) (from : Entry) →
    slice_get (entries_of store.slots) n ≡ Some from → AddsSlot label step n store.slots slots →
    entries_of slots ≡ entries_of store.slots ++ entry_at store n step label ∷ []
entries-added store n step label slots from h a =
    let at : slice_get (entries_of store.slots) a.slot.parent ≡ Some from = ap (slice_get (entries_of store.slots)) a.parent_is ∙ h in
    let entry : entry_after (entries_of store.slots) a.slot ≡ entry_at store n step label =
    later-entry (entries_of store.slots) a.slot from at
    ∙ (ap (λ (l : Label). record { label = l; partial = a.slot.step ∷ from.partial; parent = a.slot.parent }) a.label_is
    ∙ (ap (λ (s : Step). record { label = label; partial = s ∷ from.partial; parent = a.slot.parent }) a.step_is
    ∙ (ap (λ (p : ℕ). record { label = label; partial = step ∷ from.partial; parent = p }) a.parent_is
    ∙ ap (λ (o : Option Entry). record { label = label; partial = step ∷ partial_or_none o; parent = n }) (sym h)))) in
    ap entries_of a.is ∙ (entries-push store.slots a.slot ∙ ap (λ (e : Entry). entries_of store.slots ++ e ∷ []) entry)

-- an entry stays in a longer list
pub entry-stays : (minute : ℕ) (old new : LabelStore) → GrowsTo minute old new → (n : ℕ) (e : Entry) → slice_get (entries_of old.slots) n ≡ Some e →
    slice_get (entries_of new.slots) n ≡ Some e
entry-stays minute old new g n e h =
    let m = entries-more old.slots g.more in
    ap (λ (s : List Slot). slice_get (entries_of s) n) g.is ∙ (ap (λ (es : List Entry). slice_get es n) m.1 ∙ get-longer (entries_of old.slots) m.0 n e h)

pub grows-twice : (minute : ℕ) (a b c : LabelStore) → GrowsTo minute a b → GrowsTo minute b c → GrowsTo minute a c
grows-twice minute a b c g h = record {
  more = g.more ++ h.more;
  is = h.is ∙ (ap (λ (s : List Slot). s ++ h.more) g.is ∙ append_assoc a.slots g.more h.more);
  low = λ v l. h.low v (g.low v l);
  late = λ k slot l e. by_place k slot l e (cases_lt k (length b.slots));
}
  where
    by_place : (k : ℕ) (slot : Slot) → length a.slots ≤ k → slice_get c.slots k ≡ Some slot → (k < length b.slots) ⊎ (length b.slots ≤ k) →
        minute < slot.label.clock.at
    by_place k slot l e (inl low) =
        g.late k slot l (sym (ap (λ (s : List Slot). slice_get s k) h.is ∙ get-same b.slots h.more k low) ∙ e)
    by_place k slot l e (inr high) = h.late k slot high e

-- the parts of a pricing under way after one label more, where what is known has learnt its value if it is a duty inside
pub search-added : (asked : Asked) (minute : ℕ) (old new : LabelStore) (n : ℕ) (step : Step) (label : Label) → IsSearch asked minute old →
    MayAdd asked minute old n step label → AddsSlot label step n old.slots new.slots → AreChained new.minutes.items new.cells.items new.slots →
    length new.minutes.items ≡ length old.minutes.items → length new.cells.items ≡ length old.cells.items → IsNoHigher old.known new.known →
    IsKnown asked.case.now asked.driver asked.pairs.now asked.prices.now new.known (entry_at old n step label) →
    ((value : ℤ) → new.known ≡ Some value → IsBest asked (entries_of new.slots) new.best value) → IsSearch asked minute new
search-added asked minute old new n step label s m a chained minutes cells low shown best = record {
  chained = chained;
  list = subst (λ (es : List Entry). IsLabelList asked.case.now asked.driver asked.pairs.now asked.prices.now es) (sym entries)
      (list-push asked.case.now asked.driver asked.pairs.now asked.prices.now minute old.known (entries_of old.slots) (entry_at old n step label)
      s.list s.extended s.shown m);
  extended = subst (λ (es : List Entry). AreExtendedBy minute es) (sym entries)
      (extended-push asked.case.now asked.driver asked.pairs.now asked.prices.now minute old.known (entries_of old.slots) (entry_at old n step label)
      s.list s.extended s.shown m);
  shown = λ k e h. by_last k e (get-push (entries_of old.slots) (entry_at old n step label) k e (ap (λ (es : List Entry). slice_get es k) (sym entries) ∙ h));
  has_best = best;
  minutes_all = minutes ∙ s.minutes_all;
  cells_all = omega (arith, s.cells_all, cells);
}
  where
    entries : entries_of new.slots ≡ entries_of old.slots ++ entry_at old n step label ∷ []
    entries = entries-added old n step label new.slots m.from m.is_from a

    by_last : (k : ℕ) (e : Entry) → (slice_get (entries_of old.slots) k ≡ Some e) ⊎ ((k ≡ length (entries_of old.slots)) × (entry_at old n step label ≡ e)) →
        IsKnown asked.case.now asked.driver asked.pairs.now asked.prices.now new.known e
    by_last k e (inl h) home inside = low _ (s.shown k e h home inside)
    by_last k e (inr z) home inside =
        subst (λ (x : Entry). IsKnown asked.case.now asked.driver asked.pairs.now asked.prices.now new.known x) z.1 shown home inside

-- a best duty stays one
pub best-stays : (asked : Asked) (minute : ℕ) (old new : LabelStore) (best : Option ℕ) (value : ℤ) → GrowsTo minute old new → IsBest asked (entries_of old.slots) best value →
    IsBest asked (entries_of new.slots) best value
best-stays asked minute old new None value g h = h
best-stays asked minute old new (Some best) value g h = record {
  entry = h.entry;
  is_entry = entry-stays minute old new g best h.entry h.is_entry;
  home = h.home;
  inside = h.inside;
  has_value = h.has_value;
}

-- a slot that may be extended still may, after one label more that ends later
pub may-still : (asked : Asked) (minute : ℕ) (old new : LabelStore) (n k : ℕ) (step : Step) (label next : Label) → label.clock.at ≤ minute →
    MayExtend asked old n label → MayAdd asked minute old k step next → AddsSlot next step k old.slots new.slots → MayExtend asked new n label
may-still asked minute old new n k step label next l x m a = record {
  entry = x.entry;
  is_entry = ap (λ (es : List Entry). slice_get es n) entries ∙ get-longer (entries_of old.slots) _ n x.entry x.is_entry;
  is_label = x.is_label;
  best = λ p j other lj ne h b. by_last p j other lj ne b
      (get-push (entries_of old.slots) (entry_at old k step next) j other (ap (λ (es : List Entry). slice_get es j) (sym entries) ∙ h));
}
  where
    entries : entries_of new.slots ≡ entries_of old.slots ++ entry_at old k step next ∷ []
    entries = entries-added old k step next new.slots m.from m.is_from a

    by_last : 0 < n → (j : ℕ) (other : Entry) → 0 < j → j ≢ n → Dominates other.label label (forced_orders asked.case.now.week asked.pairs.now asked.driver) →
        (slice_get (entries_of old.slots) j ≡ Some other) ⊎ ((j ≡ length (entries_of old.slots)) × (entry_at old k step next ≡ other)) → ⊥
    by_last p j other lj ne b (inl h) = x.best p j other lj ne h b
    by_last p j other lj ne b (inr z) =
        let at = b.clock.at in
        let same : next.clock.at ≡ other.label.clock.at = ap (λ (e : Entry). e.label.clock.at) z.1 in
        omega (arith, m.later, l)

pub grows-same : (minute : ℕ) (old new : LabelStore) → new.slots ≡ old.slots → new.known ≡ old.known → GrowsTo minute old new
grows-same minute old new slots known = record {
  more = [];
  is = slots ∙ sym (append-nil old.slots);
  low = λ v l. subst (λ (o : Option ℤ). Knows o v) (sym known) l;
  late = λ k slot l e.
      let below = slice_get-lt old.slots k slot (ap (λ (s : List Slot). slice_get s k) (sym slots) ∙ e) in absurd (omega arith);
}

pub may-same : (asked : Asked) (old new : LabelStore) (n : ℕ) (label : Label) → new.slots ≡ old.slots → MayExtend asked old n label → MayExtend asked new n label
may-same asked old new n label slots x =
    let entries : entries_of new.slots ≡ entries_of old.slots = ap entries_of slots in
    record {
      entry = x.entry;
      is_entry = ap (λ (es : List Entry). slice_get es n) entries ∙ x.is_entry;
      is_label = x.is_label;
      best = λ p j other lj ne h. x.best p j other lj ne (ap (λ (es : List Entry). slice_get es j) (sym entries) ∙ h);
    }
