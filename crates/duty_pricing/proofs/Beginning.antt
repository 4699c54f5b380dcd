-- The first label, and what the answers rest on.
use Rattle.std.proofs.Common.{◌≡◌, inl, inr, ℕ, zero, suc, List, [], ◌∷◌, ◌++◌, length, refl, ap, sym, subst, ◌∙◌, arith, Option, Some, None, slice_get}
use Rattle.std.specs.Prelude.{ℤ, IfSome}
use Rattle.std.proofs.Common.{replicate}
use Rattle.std.proofs.lemmas.List.{get_or-replicate, length-replicate}
use Rattle.duty_plan.specs.declared.duties.Step.{Step}
use Rattle.duty_plan.specs.declared.plans.Case.{Case}
use Rattle.duty_plan.specs.declared.deciding.Pairs.{Pairs}
use Rattle.duty_plan.specs.declared.pricing.Prices.{Prices}
use Rattle.duty_plan.specs.declared.labels.Label.{Label}
use Rattle.duty_plan.specs.Values.{IsInside}
use Rattle.duty_plan.specs.Labels.{IsLabelOf}
use Rattle.duty_plan.specs.LabelLists.{Entry, IsLabelList}
use Rattle.duty_plan.specs.LabelLaws.{alone}
use Rattle.duty_plan.proofs.LabelLists.{list_alone}
use Rattle.duty_beam.specs.Finding.{IsDutyOf}
use Rattle.duty_pricing.specs.declared.asking.Asked.{Asked}
use Rattle.duty_pricing.specs.declared.stores.LabelStore.{LabelStore}
use Rattle.duty_pricing.specs.declared.slots.Slot.{Slot}
use Rattle.duty_pricing.specs.Asking.{IsAsked}
use Rattle.duty_label.specs.Pruning.{Knows}
use Rattle.duty_pricing.specs.Exhausting.{IsKnown}
use Rattle.duty_pricing.specs.Finding.{IsEmptyStore}
use Rattle.duty_pricing.specs.Searching.{IsBest, IsSearch, Learns}
use Rattle.duty_pricing.specs.Slots.{AddsSlot, AreChained, AreLinked, minute_of, cell_of, entries_of}

some-same : {X : Type 0} (a b : X) → Some a ≡ Some b → a ≡ b
some-same a b h = cc

some-none : {X : Type 0} (a : X) → Some a ≡ None → ⊥
some-none a h = cc

-- ---- the first label

begun-entries : (label : Label) (step : Step) (old slots : List Slot) → old ≡ [] → AddsSlot label step 0 old slots → entries_of slots ≡ alone label
begun-entries label step old slots none a =
    ap entries_of (a.is ∙ ap (λ (xs : List Slot). xs ++ a.slot ∷ []) none)
    ∙ (ap (λ (l : Label). record { label = l; partial = []; parent = a.slot.parent } ∷ []) a.label_is
    ∙ ap (λ (p : ℕ). record { label = label; partial = []; parent = p } ∷ []) a.parent_is)

only-first : (label : Label) (n : ℕ) (e : Entry) → slice_get (alone label) n ≡ Some e → (n ≡ 0) × (record { label = label; partial = []; parent = 0 } ≡ e)
only-first label zero e h = (refl, cc)
only-first label (suc n) e h = cc

pub first-search : (asked : Asked) (label : Label) (step : Step) (old new : LabelStore) → IsLabelOf asked.case.now asked.driver asked.prices.now label [] →
    IsEmptyStore old → AddsSlot label step 0 old.slots new.slots → AreChained new.minutes.items new.cells.items new.slots →
    length new.minutes.items ≡ length old.minutes.items → length new.cells.items ≡ length old.cells.items →
    (IsInside asked.case.now.week asked.pairs.now asked.driver [] → Knows new.known label.value) →
    ((value : ℤ) → new.known ≡ Some value → IsBest asked (entries_of new.slots) new.best value) →
    IsSearch asked 0 new
first-search asked label step old new has empty a chained minutes cells low best = record {
  chained = chained;
  list = subst (λ (es : List Entry). IsLabelList asked.case.now asked.driver asked.pairs.now asked.prices.now es) (sym entries)
      (list_alone asked.case.now asked.driver asked.pairs.now asked.prices.now label has);
  extended = λ child c from l h i.
      let z = (only-first label child c (ap (λ (es : List Entry). slice_get es child) (sym entries) ∙ h)).0 in absurd (omega arith);
  shown = λ n e h.
      subst (λ (y : Entry). IsKnown asked.case.now asked.driver asked.pairs.now asked.prices.now new.known y)
      (only-first label n e (ap (λ (es : List Entry). slice_get es n) (sym entries) ∙ h)).1
      (λ home inside. subst (λ (v : ℤ). Knows new.known v) has.value (low inside));
  has_best = best;
  minutes_all = minutes ∙ empty.room.minutes;
  cells_all = omega (arith, cells, empty.room.cells);
}
  where
    entries : entries_of new.slots ≡ alone label
    entries = begun-entries label step old.slots new.slots empty.none a

-- the first label was stored, and is no duty inside
pub first-stored : (asked : Asked) (label : Label) (step : Step) (old new : LabelStore) → IsAsked asked →
    IsLabelOf asked.case.now asked.driver asked.prices.now label [] →
    IsEmptyStore old → AddsSlot label step 0 old.slots new.slots → AreChained new.minutes.items new.cells.items new.slots →
    length new.minutes.items ≡ length old.minutes.items → length new.cells.items ≡ length old.cells.items → new.known ≡ asked.found →
    new.best ≡ None → (IsInside asked.case.now.week asked.pairs.now asked.driver [] → ⊥) → IsSearch asked 0 new
first-stored asked label step old new is has empty a chained minutes cells known none outside =
    first-search asked label step old new has empty a chained minutes cells (λ i. absurd (outside i))
    (λ value h. subst (λ (b : Option ℕ). IsBest asked (entries_of new.slots) b value) (sym none) (is.found value (sym known ∙ h)))

-- or is one, whose value was learnt
pub first-learned : (asked : Asked) (label : Label) (step : Step) (old mid new : LabelStore) → IsAsked asked →
    IsLabelOf asked.case.now asked.driver asked.prices.now label [] →
    IsEmptyStore old → AddsSlot label step 0 old.slots mid.slots → AreChained mid.minutes.items mid.cells.items mid.slots →
    length mid.minutes.items ≡ length old.minutes.items → length mid.cells.items ≡ length old.cells.items → mid.known ≡ asked.found →
    mid.best ≡ None → Learns mid new label.value 0 → IsInside asked.case.now.week asked.pairs.now asked.driver [] → IsSearch asked 0 new
first-learned asked label step old mid new is has empty a chained minutes cells known none l inside =
    first-search asked label step old new has empty added
    (subst (λ (s : List Slot). AreChained new.minutes.items new.cells.items s) (sym l.same_slots)
    (subst (λ (v : List ℕ). AreChained new.minutes.items v mid.slots) (sym l.same_cells)
    (subst (λ (v : List ℕ). AreChained v mid.cells.items mid.slots) (sym l.same_minutes) chained)))
    (ap (λ (v : List ℕ). length v) l.same_minutes ∙ minutes) (ap (λ (v : List ℕ). length v) l.same_cells ∙ cells) (λ _. l.as_low) best
  where
    added : AddsSlot label step 0 old.slots new.slots
    added = subst (λ (s : List Slot). AddsSlot label step 0 old.slots s) (sym l.same_slots) a

    best : (value : ℤ) → new.known ≡ Some value → IsBest asked (entries_of new.slots) new.best value
    best value h = elim l.from [
      | inl same ↦
          subst (λ (b : Option ℕ). IsBest asked (entries_of new.slots) b value) (sym (same.1 ∙ none)) (is.found value (sym (same.0 ∙ known) ∙ h))
      | inr one ↦ subst (λ (b : Option ℕ). IsBest asked (entries_of new.slots) b value) (sym one.1) (record {
        entry = record { label = label; partial = []; parent = 0 };
        is_entry = ap (λ (es : List Entry). slice_get es 0) (begun-entries label step old.slots new.slots empty.none added);
        home = refl;
        inside = inside;
        has_value = sym has.value ∙ some-same label.value value (sym one.0 ∙ h);
      })
    ]

-- ---- an empty store

none-linked : (key link : Slot → ℕ) (n : ℕ) → AreLinked key link (replicate n 0) []
none-linked key link n = record {
  heads_lead = λ k l. get_or-replicate n k 0 0 (omega (arith, length-replicate {A = ℕ} n 0));
  links_lead = λ k slot h. absurd (no-slot k slot h);
}
  where
    no-slot : (k : ℕ) (slot : Slot) → slice_get [] k ≡ Some slot → ⊥
    no-slot k slot h = cc

pub none-chained : (minutes cells : List ℕ) (n m : ℕ) → minutes ≡ replicate n 0 → cells ≡ replicate m 0 → AreChained minutes cells []
none-chained minutes cells n m e f = record {
  by_minute = subst (λ (xs : List ℕ). AreLinked minute_of (λ s. s.same_minute) xs []) (sym e) (none-linked minute_of (λ s. s.same_minute) n);
  by_cell = subst (λ (xs : List ℕ). AreLinked cell_of (λ s. s.same_cell) xs []) (sym f) (none-linked cell_of (λ s. s.same_cell) m);
}

-- the duty that was found beforehand, as its steps are read
pub found-beforehand : (case : Case) (driver : ℕ) (pairs : Pairs) (prices : Prices) (found : Option ℤ) (steps read : List Step) →
    IfSome found (IsDutyOf case driver pairs prices steps) → read ≡ steps → (value : ℤ) → found ≡ Some value →
    IsDutyOf case driver pairs prices read value
found-beforehand case driver pairs prices None steps read f e value h = absurd (some-none value (sym h))
found-beforehand case driver pairs prices (Some v) steps read f e value h =
    subst (λ (s : List Step). IsDutyOf case driver pairs prices s value) (sym e)
    (subst (λ (x : ℤ). IsDutyOf case driver pairs prices steps x) (some-same v value h) f)
