-- What becomes of a step that is tried after a slot.
use Rattle.std.proofs.Common.{◌≡◌, inl, ℕ, ◌<◌, ◌≤◌, false, List, [], ◌∷◌, ◌++◌, length, ap, sym, subst, ◌∙◌, arith, Some, slice_get, pos, ◌≤ℤ◌}
use Rattle.std.proofs.lemmas.Int.{ints}
use Rattle.duty_plan.specs.declared.duties.Step.{Step}
use Rattle.duty_plan.specs.declared.labels.Label.{Label}
use Rattle.duty_plan.specs.PartialDuties.{PartialDuty}
use Rattle.duty_plan.specs.Duties.{open_off_at, capacity_at}
use Rattle.duty_plan.specs.Labels.{Dominates, IsLabelOf, forced_orders}
use Rattle.duty_plan.specs.LabelLists.{Entry, IsEntry}
use Rattle.duty_plan.proofs.LabelLists.{better-self}
use Rattle.duty_plan.proofs.WeekLimits.{early}
use Rattle.duty_label.specs.Children.{HasLabel, IsLabelOfSome, serves_barred}
use Rattle.duty_label.specs.Pruning.{minutes_between}
use Rattle.duty_outlook.specs.Laws.{IsNoSooner}
use Rattle.dominance.specs.Reaching.{DominatesWithin}
use Rattle.dominance.proofs.Reaching.{label_reaches}
use Rattle.dominance.proofs.Simulating.{betters_within_any}
use Rattle.duty_pricing.specs.Visiting.{reach_of}
use Rattle.duty_pricing.specs.declared.asking.Asked.{Asked}
use Rattle.duty_pricing.specs.declared.stores.LabelStore.{LabelStore}
use Rattle.duty_pricing.specs.declared.slots.Slot.{Slot}
use Rattle.duty_pricing.specs.Asking.{IsAsked}
use Rattle.duty_pricing.specs.Exhausting.{IsHopeless, MayFollow, IsSpared}
use Rattle.duty_pricing.specs.Slots.{AddsSlot, HaveDays, entries_of, partial_at, partial_or_none}
use Rattle.duty_pricing.specs.Storing.{IsHopeful, IsOnTime, IsUnbettered}
use Rattle.duty_pricing.specs.Searching.{HasTried, RulesOut, IsListedAt, IsSearch, MayAdd, MayExtend, entry_at}
use Rattle.duty_pricing.proofs.Elements.{get-last, get-longer}
use Rattle.duty_pricing.proofs.Entries.{entry-of, slot-of}
use Rattle.duty_pricing.proofs.Searching.{entries-added}
use Rattle.duty_pricing.proofs.Following.{place-in, ends-later, keeps-barred}

some-same : {X : Type 0} (a b : X) → Some a ≡ Some b → a ≡ b
some-same a b h = cc

-- the work day of each slot's label began at its minute or before it
pub search-days : (asked : Asked) (minute : ℕ) (store : LabelStore) → IsSearch asked minute store → HaveDays store.slots
search-days asked minute store s n slot h =
    let found = entry-of store.slots n slot h in
    let clock = (s.list.entry n found.0 found.1).label.clock in
    subst (λ (l : Label). l.clock.day_from ≤ℤ pos l.clock.at) found.2 (omega (arith, ints, clock.at, clock.day_from))

-- ---- a step after a slot

module _ (asked : Asked) (store : LabelStore) (number : ℕ) (from : Label) (step : Step) (is : IsAsked asked)
    (s : IsSearch asked from.clock.at store) (x : MayExtend asked store number from) where
  is-entry : IsEntry asked.case.now asked.driver asked.pairs.now asked.prices.now x.entry
  is-entry = s.list.entry number x.entry x.is_entry

  pub from-has : HasLabel asked.case.now asked.driver asked.prices.now x.entry.partial from
  from-has = record {
    lawful = is-entry.lawful;
    label_of = subst (λ (l : Label). IsLabelOf asked.case.now asked.driver asked.prices.now l x.entry.partial) x.is_label is-entry.label;
  }

  pub from-some : IsLabelOfSome asked.case.now asked.driver asked.prices.now from
  from-some = record { partial = x.entry.partial; has_label = from-has }

  the-entry : (e : Entry) → slice_get (entries_of store.slots) number ≡ Some e → x.entry ≡ e
  the-entry e h = some-same x.entry e (sym x.is_entry ∙ h)

  pub tried-none : (MayFollow asked.case.now asked.driver asked.pairs.now step x.entry.partial → ⊥) → HasTried asked store number step
  tried-none none e h m =
      absurd (none (subst (λ (y : Entry). MayFollow asked.case.now asked.driver asked.pairs.now step y.partial) (sym (the-entry e h)) m))

  pub tried-spared : IsSpared asked.case.now asked.driver asked.pairs.now asked.prices.now store.known (entries_of store.slots) (step ∷ x.entry.partial) →
      HasTried asked store number step
  tried-spared sp e h m =
      subst (λ (y : Entry). IsSpared asked.case.now asked.driver asked.pairs.now asked.prices.now store.known (entries_of store.slots) (step ∷ y.partial))
      (the-entry e h) sp

  module _ (label : Label) (has : HasLabel asked.case.now asked.driver asked.prices.now (step ∷ x.entry.partial) label) where
    pub tried-bettered : (n : ℕ) (slot : Slot) → 1 ≤ n → slice_get store.slots n ≡ Some slot →
        DominatesWithin slot.label label asked.forced (reach_of asked label) → HasTried asked store number step
    tried-bettered n slot l h b =
        let found = entry-of store.slots n slot h in
        tried-spared (inl (record {
          number = n;
          entry = found.0;
          label = label;
          begun = omega arith;
          is_entry = found.1;
          has_label = has.label_of;
          reach = reach_of asked label;
          in_reach = label_reaches asked.case.now asked.driver asked.prices.now (minutes_between asked.walks.now) label (step ∷ x.entry.partial)
              is.walks.minutes has.label_of;
          better = subst (λ (f : ℕ). DominatesWithin found.0.label label f (reach_of asked label)) is.is_forced
              (subst (λ (y : Label). DominatesWithin y label asked.forced (reach_of asked label)) (sym found.2) b);
        }))

    pub ruled-out : ((later : PartialDuty) → IsNoSooner asked.case.now asked.driver asked.prices.now (step ∷ x.entry.partial) later →
        IsHopeless asked.case.now asked.driver asked.pairs.now asked.prices.now store.known later) → RulesOut asked store number step
    ruled-out r e h later s =
        r later (subst (λ (y : Entry). IsNoSooner asked.case.now asked.driver asked.prices.now (step ∷ y.partial) later) (sym (the-entry e h)) s)

    pub place-fits : label.place < 64
    place-fits =
        let low = place-in asked.case.now.week (open_off_at asked.case.now asked.driver) (capacity_at asked.case.now asked.driver) (step ∷ x.entry.partial)
        is.is_case.week has.lawful.office in
        let few = is.is_case.week.places in omega (arith, has.label_of.place)

    pub minute-fits : label.clock.at ≤ 10080
    minute-fits =
        let low = early asked.case.now.week (open_off_at asked.case.now asked.driver) (capacity_at asked.case.now asked.driver) (step ∷ x.entry.partial)
        has.lawful.office in omega (arith, has.label_of.clock.at)

    path : partial_at (entries_of store.slots) number ≡ x.entry.partial
    path = ap partial_or_none x.is_entry

    pub may-add : serves_barred asked.case.now.week asked.pairs.now asked.driver step.act ≡ false → IsListedAt asked store number step →
        ((n : ℕ) (slot : Slot) → 1 ≤ n → slice_get store.slots n ≡ Some slot →
        DominatesWithin slot.label label asked.forced (reach_of asked label) → ⊥) →
        IsOnTime asked.case.now asked.driver asked.pairs.now (step ∷ x.entry.partial) →
        IsHopeful asked.case.now asked.driver asked.pairs.now asked.prices.now store.known (step ∷ x.entry.partial) →
        MayAdd asked from.clock.at store number step label
    may-add unbarred listed none on_time hopeful = record {
      from = x.entry;
      step = step;
      is_from = x.is_entry;
      is_step = ap (λ (f : PartialDuty). step ∷ f) path;
      is_entry = subst (λ (f : PartialDuty). IsEntry asked.case.now asked.driver asked.pairs.now asked.prices.now
          (record { label = label; partial = step ∷ f; parent = number })) (sym path) (record {
            label = has.label_of;
            lawful = has.lawful;
            listed = (listed x.entry x.is_entry, is-entry.listed);
            unbarred = keeps-barred asked.case.now asked.driver asked.pairs.now step x.entry.partial is-entry.unbarred unbarred;
          });
      best = λ p. subst (λ (l : Label). IsUnbettered asked.case.now asked.driver asked.pairs.now (entries_of store.slots) number l) (sym x.is_label) (x.best p);
      begun = let e = ap (λ (l : Label). l.clock.at) x.is_label in omega arith;
      later = let e = ends-later asked.case.now asked.driver step x.entry.partial is.is_case.week has.lawful in
          omega (arith, has.label_of.clock.at, from-has.label_of.clock.at);
      new = λ k other l h b. by_slot k other l b (slot-of store.slots k other h);
      on_time = subst (λ (f : PartialDuty). IsOnTime asked.case.now asked.driver asked.pairs.now (step ∷ f)) (sym path) on_time;
      hopeful = subst (λ (f : PartialDuty). IsHopeful asked.case.now asked.driver asked.pairs.now asked.prices.now store.known (step ∷ f)) (sym path) hopeful;
    }
      where
        by_slot : (k : ℕ) (other : Entry) → 0 < k → Dominates other.label label (forced_orders asked.case.now.week asked.pairs.now asked.driver) →
            (slot : Slot) × (slice_get store.slots k ≡ Some slot) × (other.label ≡ slot.label) × (other.parent ≡ slot.parent) → ⊥
        by_slot k other l b found =
            none k found.0 (omega arith) found.1
            (betters_within_any found.0.label label asked.forced (reach_of asked label)
            (subst (λ (y : Label). Dominates y label asked.forced) found.2
            (subst (λ (f : ℕ). Dominates other.label label f) (sym is.is_forced) b)))

    pub tried-added : (new : LabelStore) → AddsSlot label step number store.slots new.slots → HasTried asked new number step
    tried-added new a e h m =
        let entries : entries_of new.slots ≡ entries_of store.slots ++ entry_at store number step label ∷ [] =
        entries-added store number step label new.slots x.entry x.is_entry a in
        let same : x.entry ≡ e =
        some-same x.entry e (sym (ap (λ (es : List Entry). slice_get es number) entries
        ∙ get-longer (entries_of store.slots) (entry_at store number step label ∷ []) number x.entry x.is_entry) ∙ h) in
        inl (record {
          number = length (entries_of store.slots);
          entry = entry_at store number step label;
          label = label;
          begun = s.list.some;
          is_entry = ap (λ (es : List Entry). slice_get es (length (entries_of store.slots))) entries ∙ get-last (entries_of store.slots) _;
          has_label = subst (λ (y : Entry). IsLabelOf asked.case.now asked.driver asked.prices.now label (step ∷ y.partial)) same has.label_of;
          reach = reach_of asked label;
          in_reach = label_reaches asked.case.now asked.driver asked.prices.now (minutes_between asked.walks.now) label (step ∷ e.partial)
              is.walks.minutes
              (subst (λ (y : Entry). IsLabelOf asked.case.now asked.driver asked.prices.now label (step ∷ y.partial)) same has.label_of);
          better = betters_within_any label label (forced_orders asked.case.now.week asked.pairs.now asked.driver) (reach_of asked label)
              (better-self label (forced_orders asked.case.now.week asked.pairs.now asked.driver));
        })

-- the place of a label that may be added is one of a week
pub added-place : (asked : Asked) (minute : ℕ) (store : LabelStore) (n : ℕ) (step : Step) (label : Label) → IsAsked asked →
    IsSearch asked minute store → MayAdd asked minute store n step label → label.place < 64
added-place asked minute store n step label is s m =
    let low = place-in asked.case.now.week (open_off_at asked.case.now asked.driver) (capacity_at asked.case.now asked.driver)
    (entry_at store n step label).partial is.is_case.week m.is_entry.lawful.office in
    let few = is.is_case.week.places in omega (arith, m.is_entry.label.place)

-- and its minute
pub added-minute : (asked : Asked) (minute : ℕ) (store : LabelStore) (n : ℕ) (step : Step) (label : Label) → IsAsked asked →
    IsSearch asked minute store → MayAdd asked minute store n step label → label.clock.at ≤ 10080
added-minute asked minute store n step label is s m =
    let low = early asked.case.now.week (open_off_at asked.case.now asked.driver) (capacity_at asked.case.now asked.driver)
    (entry_at store n step label).partial m.is_entry.lawful.office in
    omega (arith, m.is_entry.label.clock.at)
