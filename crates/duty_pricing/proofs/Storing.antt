-- A label list with one entry more is a label list.
use Rattle.std.proofs.Common.{◌≡◌, ◌≢◌, ◌⊎◌, inl, inr, ℕ, ◌<◌, ◌≤◌, true, List, [], ◌∷◌, ◌++◌, length, ap, sym, subst, ◌∙◌, arith, Option, Some, None, slice_get}
use Rattle.std.specs.Prelude.{ℤ, ◌<ℤ◌, ◌≤ℤ◌}
use Rattle.std.proofs.lemmas.Int.{ints}
use Rattle.week_book.specs.Weeks.{order_of}
use Rattle.duty_plan.specs.declared.plans.Case.{Case}
use Rattle.duty_plan.specs.declared.deciding.Pair.TheVariants.{Forced}
use Rattle.duty_plan.specs.declared.deciding.Pairs.{Pairs}
use Rattle.duty_plan.specs.declared.pricing.Prices.{Prices}
use Rattle.duty_plan.specs.PartialDuties.{PartialDuty, place_after, at_after, serves}
use Rattle.duty_plan.specs.Duties.{EachOf}
use Rattle.duty_plan.specs.Values.{IsInside, pair_at, reduced_cost}
use Rattle.duty_plan.specs.Labels.{Dominates, closes_of, forced_orders, has_step}
use Rattle.duty_plan.specs.LabelLists.{Entry, IsEntry, IsExtended, IsLabelList, completion_bound}
use Rattle.duty_plan.proofs.Lists.{slice_get-lt}
use Rattle.duty_label.specs.Pruning.{Knows}
use Rattle.duty_pricing.specs.Exhausting.{IsSpared, IsDone, IsKnown, HaveLabels}
use Rattle.duty_pricing.specs.Storing.{AreExtendedBy, IsOnTime, IsHopeful, IsNewEntry, IsNoHigher}
use Rattle.duty_pricing.proofs.Elements.{get-longer, get-push, length-push}

-- of two whole numbers one is at most the other, or above it
not-le : (a b : ℤ) → (a ≤ℤ b → ⊥) → b <ℤ a
not-le a b h = grind (arith, ints)

-- what is known is below what may be hoped for, or that bound is below each value that is as high as what is known
below-known : (known : Option ℤ) (hoped value : ℤ) → (Knows known hoped → ⊥) → Knows known value → hoped <ℤ value
below-known None hoped value h k = absurd k
below-known (Some v) hoped value h k = let l : hoped <ℤ v = not-le v hoped h in omega (arith, ints)

-- one entry more
module _ (case : Case) (driver : ℕ) (pairs : Pairs) (prices : Prices) (minute : ℕ) (known : Option ℤ) (entries : List Entry) (entry : Entry)
    (list : IsLabelList case driver pairs prices entries) (extended : AreExtendedBy minute entries)
    (shown : EachOf (λ n e. IsKnown case driver pairs prices known e) entries)
    (new : IsNewEntry case driver pairs prices minute known entries entry) where
  abbrev longer : List Entry
  longer = entries ++ entry ∷ []

  parent-lt : entry.parent < length entries
  parent-lt = slice_get-lt entries entry.parent new.from new.is_from

  -- an entry of the longer list is one of the list, or the last
  is-old : (n : ℕ) (e : Entry) → n < length entries → slice_get longer n ≡ Some e → slice_get entries n ≡ Some e
  is-old n e l h = elim (get-push entries entry n e h) [ inl i ↦ i | inr z ↦ absurd (omega (arith, z.0)) ]

  is-entry : (n : ℕ) (e : Entry) → slice_get longer n ≡ Some e → IsEntry case driver pairs prices e
  is-entry n e h = elim (get-push entries entry n e h) [
    | inl i ↦ list.entry n e i
    | inr z ↦ subst (λ (x : Entry). IsEntry case driver pairs prices x) z.1 new.is_entry
  ]

  is-first : (e : Entry) → slice_get longer 0 ≡ Some e → e.partial ≡ []
  is-first e h = list.first e (is-old 0 e list.some h)

  extended-old : (n : ℕ) (e : Entry) → IsExtended case driver prices entries n e → IsExtended case driver prices longer n e
  extended-old n e x = record {
    from = x.from;
    step = x.step;
    before = x.before;
    earlier = x.earlier;
    is_from = get-longer entries (entry ∷ []) e.parent x.from x.is_from;
    is_step = x.is_step;
    has_label = x.has_label;
  }

  extended-new : IsExtended case driver prices longer (length entries) entry
  extended-new = record {
    from = new.from;
    step = new.step;
    before = new.from.partial;
    earlier = parent-lt;
    is_from = get-longer entries (entry ∷ []) entry.parent new.from new.is_from;
    is_step = new.is_step;
    has_label = (list.entry entry.parent new.from new.is_from).label;
  }

  is-extended : (n : ℕ) (e : Entry) → 0 < n → slice_get longer n ≡ Some e → IsExtended case driver prices longer n e
  is-extended n e l h = elim (get-push entries entry n e h) [
    | inl i ↦ extended-old n e (list.extended n e l i)
    | inr z ↦ subst (λ (k : ℕ). IsExtended case driver prices longer k e) (sym z.0)
        (subst (λ (x : Entry). IsExtended case driver prices longer (length entries) x) z.1 extended-new)
  ]

  not-bettered : (n k : ℕ) (e better : Entry) → 0 < k → k < n → slice_get longer n ≡ Some e → slice_get longer k ≡ Some better →
      Dominates better.label e.label (forced_orders case.week pairs driver) → ⊥
  not-bettered n k e better lk l h i b = by_last (get-push entries entry n e h)
    where
      by_last : (slice_get entries n ≡ Some e) ⊎ ((n ≡ length entries) × (entry ≡ e)) → ⊥
      by_last (inl o) = list.not_bettered n k e better lk l o (is-old k better (omega (arith, slice_get-lt entries n e o)) i) b
      by_last (inr z) =
          new.new k better lk (is-old k better (omega (arith, z.0)) i)
          (subst (λ (x : Entry). Dominates better.label x.label (forced_orders case.week pairs driver)) (sym z.1) b)

  -- an entry that was extended, the parent of the new one among them, ends at the minute or before it
  extended-by : AreExtendedBy minute longer
  extended-by child c from l h i = by_last (get-push entries entry child c h)
    where
      by_last : (slice_get entries child ≡ Some c) ⊎ ((child ≡ length entries) × (entry ≡ c)) → from.label.clock.at ≤ minute
      by_last (inl o) =
          let x = list.extended child c l o in
          extended child c from l o (is-old c.parent from (omega (arith, x.earlier, slice_get-lt entries child c o)) i)
      by_last (inr z) =
          let at : slice_get longer entry.parent ≡ Some from = ap (λ (x : Entry). slice_get longer x.parent) z.1 ∙ i in
          let old = is-old entry.parent from parent-lt at in
          let same : new.from ≡ from = let e = new.is_from in cc in
          subst (λ (x : Entry). x.label.clock.at ≤ minute) same new.begun

  best-extended : (n k child : ℕ) (e better c : Entry) → 0 < n → 0 < k → 0 < child → k ≢ n → slice_get longer n ≡ Some e →
      slice_get longer k ≡ Some better → slice_get longer child ≡ Some c → c.parent ≡ n →
      Dominates better.label e.label (forced_orders case.week pairs driver) → ⊥
  best-extended n k child e better c ln lk lc ne hn hk hc p b = by_last (get-push entries entry k better hk) (get-push entries entry child c hc)
    where
      ends : e.label.clock.at ≤ minute
      ends = extended-by child c e lc hc (ap (λ (x : ℕ). slice_get longer x) p ∙ hn)

      by_last : (slice_get entries k ≡ Some better) ⊎ ((k ≡ length entries) × (entry ≡ better)) →
          (slice_get entries child ≡ Some c) ⊎ ((child ≡ length entries) × (entry ≡ c)) → ⊥
      by_last (inr z) o =
          let at = b.clock.at in
          let same : entry.label.clock.at ≡ better.label.clock.at = ap (λ (x : Entry). x.label.clock.at) z.1 in
          omega (arith, new.later, ends)
      by_last (inl ok) (inl oc) =
          let x = list.extended child c lc oc in
          list.best_extended n k child e better c ln lk lc ne (is-old n e (omega (arith, x.earlier, slice_get-lt entries child c oc)) hn) ok oc p b
      by_last (inl ok) (inr z) =
          let number : entry.parent ≡ n = ap (λ (x : Entry). x.parent) z.1 ∙ p in
          let at : slice_get longer entry.parent ≡ Some e = ap (λ (x : ℕ). slice_get longer x) number ∙ hn in
          let old = is-old entry.parent e parent-lt at in
          let same : new.from ≡ e = let h = new.is_from in cc in
          new.best (omega arith) k better lk (λ q. ne (q ∙ number)) ok
          (subst (λ (x : Entry). Dominates better.label x.label (forced_orders case.week pairs driver)) (sym same) b)

  on-time : (n order : ℕ) (e : Entry) → 0 < n → slice_get longer n ≡ Some e → order < length case.week.orders →
      pair_at pairs driver order ≡ Forced → closes_of (order_of case.week order) < at_after case.week e.partial → serves order e.partial ≡ true
  on-time n order e l h lo p c = by_last (get-push entries entry n e h)
    where
      by_last : (slice_get entries n ≡ Some e) ⊎ ((n ≡ length entries) × (entry ≡ e)) → serves order e.partial ≡ true
      by_last (inl o) = list.on_time n order e l o lo p c
      by_last (inr z) = subst (λ (x : Entry). IsOnTime case driver pairs x.partial) z.1 new.on_time order lo p c

  hopeful : (n k : ℕ) (e other : Entry) → k < n → slice_get longer n ≡ Some e → slice_get longer k ≡ Some other →
      place_after other.partial ≡ 0 → IsInside case.week pairs driver other.partial →
      completion_bound case driver pairs prices e.partial <ℤ reduced_cost case driver prices other.partial
  hopeful n k e other l hn hk home inside = by_last (get-push entries entry n e hn)
    where
      by_last : (slice_get entries n ≡ Some e) ⊎ ((n ≡ length entries) × (entry ≡ e)) →
          completion_bound case driver pairs prices e.partial <ℤ reduced_cost case driver prices other.partial
      by_last (inl o) = list.hopeful n k e other l o (is-old k other (omega (arith, slice_get-lt entries n e o)) hk) home inside
      by_last (inr z) =
          below-known known (completion_bound case driver pairs prices e.partial) (reduced_cost case driver prices other.partial)
          (subst (λ (x : Entry). IsHopeful case driver pairs prices known x.partial) z.1 new.hopeful)
          (shown k other (is-old k other (omega (arith, z.0)) hk) home inside)

  pub list-push : IsLabelList case driver pairs prices (entries ++ entry ∷ [])
  list-push = record {
    some = omega (arith, length-push entries entry);
    entry = is-entry;
    first = is-first;
    extended = is-extended;
    not_bettered = not-bettered;
    best_extended = best-extended;
    on_time = on-time;
    hopeful = hopeful;
  }

  pub extended-push : AreExtendedBy minute (entries ++ entry ∷ [])
  extended-push = extended-by

-- an entry's partial duty is lawful and has its label, and all but the first have a step
pub have-labels : (case : Case) (driver : ℕ) (pairs : Pairs) (prices : Prices) (entries : List Entry) →
    IsLabelList case driver pairs prices entries → HaveLabels case driver pairs prices entries
have-labels case driver pairs prices entries list = record {
  each = λ n e h. let i = list.entry n e h in record { lawful = i.lawful; label_of = i.label };
  unbarred = λ n e h. (list.entry n e h).unbarred;
  begun = λ n e l h. let x = list.extended n e l h in ap has_step x.is_step;
}

-- a partial duty that is spared stays so in a longer list, where no more is known
pub spared-longer : (case : Case) (driver : ℕ) (pairs : Pairs) (prices : Prices) (old new : Option ℤ) (entries more : List Entry) (partial : PartialDuty) →
    IsNoHigher old new → IsSpared case driver pairs prices old entries partial → IsSpared case driver pairs prices new (entries ++ more) partial
spared-longer case driver pairs prices old new entries more partial low (inl c) = inl (record {
  number = c.number;
  entry = c.entry;
  label = c.label;
  begun = c.begun;
  is_entry = get-longer entries more c.number c.entry c.is_entry;
  has_label = c.has_label;
  reach = c.reach;
  in_reach = c.in_reach;
  better = c.better;
})
spared-longer case driver pairs prices old new entries more partial low (inr h) = inr (λ steps done inside. low _ (h steps done inside))

-- what is done with stays so
pub done-longer : (case : Case) (driver : ℕ) (pairs : Pairs) (prices : Prices) (old new : Option ℤ) (entries more : List Entry) (n : ℕ) (e : Entry) →
    IsNoHigher old new → IsDone case driver pairs prices old entries n e → IsDone case driver pairs prices new (entries ++ more) n e
done-longer case driver pairs prices old new entries more n e low (inl s) = inl (record {
  number = s.number;
  other = s.other;
  begun = s.begun;
  later = s.later;
  is_other = get-longer entries more s.number s.other s.is_other;
  reach = s.reach;
  in_reach = s.in_reach;
  better = s.better;
})
done-longer case driver pairs prices old new entries more n e low (inr g) =
    inr (λ step m. spared-longer case driver pairs prices old new entries more (step ∷ e.partial) low (g step m))
