-- What it takes to be done with a slot, and that it lasts.
use Rattle.std.proofs.Common.{◌≡◌, ◌≢◌, ◌⊎◌, inl, inr, ℕ, suc, ◌<◌, ◌≤◌, true, List, ◌++◌, length, ap, sym, subst, ◌∙◌, arith, Some, slice_get}
use Rattle.std.proofs.lemmas.Bool.{cases_lt}
use Rattle.duty_plan.specs.declared.duties.Step.{Step}
use Rattle.duty_plan.specs.declared.labels.Label.{Label}
use Rattle.duty_plan.specs.Acts.{can_be_done}
use Rattle.duty_plan.specs.PartialDuties.{place_after}
use Rattle.duty_plan.specs.Duties.{open_off_at, capacity_at}
use Rattle.duty_plan.specs.Labels.{IsLabelOf, Dominates, forced_orders}
use Rattle.duty_plan.specs.LabelLists.{Entry, IsEntry}
use Rattle.duty_plan.proofs.WeekLimits.{early}
use Rattle.duty_label.specs.Pruning.{minutes_between}
use Rattle.dominance.specs.Reaching.{DominatesWithin}
use Rattle.dominance.proofs.Reaching.{label_reaches}
use Rattle.dominance.proofs.Simulating.{betters_within_any}
use Rattle.duty_pricing.specs.declared.asking.Asked.{Asked}
use Rattle.duty_pricing.specs.declared.stores.LabelStore.{LabelStore}
use Rattle.duty_pricing.specs.declared.slots.Slot.{Slot}
use Rattle.duty_pricing.specs.Asking.{IsAsked}
use Rattle.duty_pricing.specs.Exhausting.{IsDone}
use Rattle.duty_pricing.specs.Slots.{entries_of}
use Rattle.duty_pricing.specs.Searching.{GoesOn, GrowsTo, HasTried, IsSearch, MayExtend}
use Rattle.duty_pricing.specs.Visiting.{IsDoneAt, IsEntryOf, IsSettledAt, reach_of}
use Rattle.duty_pricing.proofs.Elements.{get-same}
use Rattle.duty_pricing.proofs.Entries.{entries-more, entry-of, slot-of}
use Rattle.duty_pricing.proofs.Links.{lt-or}
use Rattle.duty_pricing.proofs.Storing.{done-longer}
use Rattle.duty_pricing.proofs.Searching.{entry-stays}
use Rattle.duty_pricing.proofs.Following.{place-in}

some-same : {X : Type 0} (a b : X) → Some a ≡ Some b → a ≡ b
some-same a b h = cc

module _ (asked : Asked) (minute : ℕ) (store : LabelStore) (n : ℕ) (label : Label) (is : IsAsked asked) (s : IsSearch asked minute store)
    (x : IsEntryOf store n label) where
  is-entry : IsEntry asked.case.now asked.driver asked.pairs.now asked.prices.now x.entry
  is-entry = s.list.entry n x.entry x.is_entry

  -- the label's place is one of a week
  pub entry-place : label.place < 64
  entry-place =
      let low = place-in asked.case.now.week (open_off_at asked.case.now asked.driver) (capacity_at asked.case.now asked.driver) x.entry.partial
      is.is_case.week is-entry.lawful.office in
      let same = ap (λ (l : Label). l.place) x.is_label in
      let few = is.is_case.week.places in omega (arith, is-entry.label.place)

  -- and its minute
  pub entry-minute : label.clock.at ≤ 10080
  entry-minute =
      let low = early asked.case.now.week (open_off_at asked.case.now asked.driver) (capacity_at asked.case.now asked.driver) x.entry.partial
      is-entry.lawful.office in
      let same = ap (λ (l : Label). l.clock.at) x.is_label in omega (arith, is-entry.label.clock.at)

  -- where no later slot betters it, none does, since no earlier one does
  pub may-begin : (IsSettledAt asked store n label → ⊥) → MayExtend asked store n label
  may-begin free = record {
    entry = x.entry;
    is_entry = x.is_entry;
    is_label = x.is_label;
    best = λ p k other lk ne h b. by_place p k other lk ne h b (lt-or k n);
  }
    where
      by_place : 0 < n → (k : ℕ) (other : Entry) → 0 < k → k ≢ n → slice_get (entries_of store.slots) k ≡ Some other →
          Dominates other.label label (forced_orders asked.case.now.week asked.pairs.now asked.driver) → (k < n) ⊎ ((k ≡ n) ⊎ (suc n ≤ k)) → ⊥
      by_place p k other lk ne h b (inl l) =
          s.list.not_bettered n k x.entry other lk l x.is_entry h
          (subst (λ (y : Label). Dominates other.label y (forced_orders asked.case.now.week asked.pairs.now asked.driver)) (sym x.is_label) b)
      by_place p k other lk ne h b (inr (inl e)) = ne e
      by_place p k other lk ne h b (inr (inr l)) =
          let found = slot-of store.slots k other h in
          free (record {
            number = k;
            slot = found.0;
            begun = p;
            later = omega arith;
            is_slot = found.1;
            better = betters_within_any found.0.label label asked.forced (reach_of asked label)
                (subst (λ (y : Label). Dominates y label asked.forced) found.2
                (subst (λ (f : ℕ). Dominates other.label label f) (sym is.is_forced) b));
          })

  -- a later slot settles it
  pub done-settled : IsSettledAt asked store n label → IsDoneAt asked store n
  done-settled t e h =
      let same : x.entry ≡ e = some-same x.entry e (sym x.is_entry ∙ h) in
      let found = entry-of store.slots t.number t.slot t.is_slot in
      let labels : label ≡ e.label = sym x.is_label ∙ ap (λ (y : Entry). y.label) same in
      let has : IsLabelOf asked.case.now asked.driver asked.prices.now label e.partial =
      subst (λ (l : Label). IsLabelOf asked.case.now asked.driver asked.prices.now l e.partial) (sym labels)
      (subst (λ (y : Entry). IsLabelOf asked.case.now asked.driver asked.prices.now y.label y.partial) same is-entry.label) in
      inl (record {
        number = t.number;
        other = found.0;
        begun = t.begun;
        later = t.later;
        is_other = found.1;
        reach = reach_of asked label;
        in_reach = label_reaches asked.case.now asked.driver asked.prices.now (minutes_between asked.walks.now) label e.partial is.walks.minutes has;
        better = subst (λ (f : ℕ). DominatesWithin found.0.label e.label f (reach_of asked label)) is.is_forced
            (subst (λ (y : Label). DominatesWithin y e.label asked.forced (reach_of asked label)) (sym found.2)
            (subst (λ (y : Label). DominatesWithin t.slot.label y asked.forced (reach_of asked label)) labels t.better));
      })

-- or each step was tried
pub done-extended : (asked : Asked) (n : ℕ) (label : Label) (old new : LabelStore) → GoesOn asked n label old new →
    ((step : Step) → can_be_done asked.case.now.week label.place step.act ≡ true → HasTried asked new n step) → IsDoneAt asked new n
done-extended asked n label old new on tried e h =
    let x = on.still in
    let same : x.entry ≡ e = some-same x.entry e (sym x.is_entry ∙ h) in
    let place : place_after e.partial ≡ label.place =
    sym (on.search.list.entry n e h).label.place ∙ ap (λ (l : Label). l.place) (sym (ap (λ (y : Entry). y.label) same) ∙ x.is_label) in
    inr (λ step m. tried step (ap (λ (p : ℕ). can_be_done asked.case.now.week p step.act) (sym place) ∙ m.lawful.office.0.road) e h m)

-- what is done with stays so
pub done-stays : (asked : Asked) (minute : ℕ) (old new : LabelStore) (n : ℕ) (slot : Slot) → GrowsTo minute old new → slice_get old.slots n ≡ Some slot →
    IsDoneAt asked old n → IsDoneAt asked new n
done-stays asked minute old new n slot g h d e i =
    let found = entry-of old.slots n slot h in
    let same : found.0 ≡ e = some-same found.0 e (sym (entry-stays minute old new g n found.0 found.1) ∙ i) in
    let more = entries-more old.slots g.more in
    let entries : entries_of new.slots ≡ entries_of old.slots ++ more.0 = ap entries_of g.is ∙ more.1 in
    subst (λ (y : Entry). IsDone asked.case.now asked.driver asked.pairs.now asked.prices.now new.known (entries_of new.slots) n y) same
    (subst (λ (es : List Entry). IsDone asked.case.now asked.driver asked.pairs.now asked.prices.now new.known es n found.0) (sym entries)
    (done-longer asked.case.now asked.driver asked.pairs.now asked.prices.now old.known new.known (entries_of old.slots) more.0 n found.0 g.low
    (d found.0 found.1)))

-- a slot of the longer list is one of the list, or ends after the minute
pub old-or-late : (minute : ℕ) (old new : LabelStore) (n : ℕ) (slot : Slot) → GrowsTo minute old new → slice_get new.slots n ≡ Some slot →
    (slice_get old.slots n ≡ Some slot) ⊎ (minute < slot.label.clock.at)
old-or-late minute old new n slot g h = elim (cases_lt n (length old.slots)) [
  | inl l ↦ inl (sym (get-same old.slots g.more n l) ∙ (sym (ap (λ (s : List Slot). slice_get s n) g.is) ∙ h))
  | inr l ↦ inr (g.late n slot l h)
]

-- a pricing at a minute is one at a later minute
pub search-later : (asked : Asked) (minute later : ℕ) (store : LabelStore) → minute ≤ later → IsSearch asked minute store → IsSearch asked later store
search-later asked minute later store l s = record {
  chained = s.chained;
  list = s.list;
  extended = λ child c from p h i. let low = s.extended child c from p h i in omega arith;
  shown = s.shown;
  has_best = s.has_best;
  minutes_all = s.minutes_all;
  cells_all = s.cells_all;
}

-- each slot ends in the week
pub slot-low : (asked : Asked) (minute : ℕ) (store : LabelStore) (n : ℕ) (e : Entry) → IsSearch asked minute store →
    slice_get (entries_of store.slots) n ≡ Some e → e.label.clock.at < 10081
slot-low asked minute store n e s h =
    let is = s.list.entry n e h in
    let low = early asked.case.now.week (open_off_at asked.case.now asked.driver) (capacity_at asked.case.now asked.driver) e.partial is.lawful.office in
    omega (arith, is.label.clock.at)
