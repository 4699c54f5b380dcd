-- What the answers of a pricing rest on.
use Rattle.std.proofs.Common.{◌≡◌, ℕ, ◌<◌, ◌≤◌, List, [], ◌∷◌, length, reverse, refl, ap, sym, subst, ◌∙◌, arith, false, true, is_some, Option, Some, None, slice_get}
use Rattle.std.specs.Prelude.{ℤ, IfSome}
use Rattle.std.proofs.lemmas.List.{reverse-reverse, length-reverse}
use Rattle.duty_plan.specs.declared.duties.Duty.{Duty}
use Rattle.duty_plan.specs.declared.duties.Step.{Step}
use Rattle.duty_plan.specs.declared.plans.Case.{Case}
use Rattle.duty_plan.specs.declared.deciding.Pairs.{Pairs}
use Rattle.duty_plan.specs.declared.pricing.Prices.{Prices}
use Rattle.duty_plan.specs.PartialDuties.{PartialDuty, place_after}
use Rattle.duty_plan.specs.Duties.{IsCase, IsLawfulPartialDuty, partial_of, open_off_at, capacity_at}
use Rattle.duty_plan.specs.Values.{HasNoDuty, IsChoice, IsInside, reduced_cost}
use Rattle.duty_plan.specs.LabelLists.{Entry}
use Rattle.duty_plan.proofs.Lists.{slice_get-lt}
use Rattle.duty_plan.proofs.WeekLimits.{early, few-steps}
use Rattle.duty_beam.specs.Finding.{IsDutyOf}
use Rattle.duty_pricing.specs.declared.asking.Asked.{Asked}
use Rattle.duty_pricing.specs.declared.stores.LabelStore.{LabelStore}
use Rattle.duty_pricing.specs.Asking.{IsAsked}
use Rattle.duty_label.specs.Pruning.{Knows}
use Rattle.duty_pricing.specs.Exhausting.{AreExhausted}
use Rattle.duty_pricing.specs.Finding.{HasLeastSteps}
use Rattle.duty_pricing.specs.Searching.{HasBest, IsBest, IsSearch}
use Rattle.duty_pricing.specs.Slots.{HaveParents, entries_of, partial_at, partial_or_none}
use Rattle.duty_pricing.specs.Visiting.{IsDoneAt}
use Rattle.duty_pricing.proofs.Entries.{entry-of, length-entries}
use Rattle.duty_pricing.proofs.Exhausting.{exhausts_duties}
use Rattle.duty_pricing.proofs.Storing.{have-labels}

some-none : {X : Type 0} (a : X) → Some a ≡ None → ⊥
some-none a h = cc

false-true : false ≡ true → ⊥
false-true h = cc

-- ---- the answers

-- a duty that the driver may be given has few steps
pub choice-few : (case : Case) (driver : ℕ) (pairs : Pairs) (steps : List Step) → IsCase case →
    IsChoice case driver pairs (record { steps = steps }) → length steps ≤ 10080
choice-few case driver pairs steps is choice =
    let lawful = choice.lawful.partial in
    let a = early case.week (open_off_at case driver) (capacity_at case driver) (partial_of (record { steps = steps })) lawful.office in
    let b = few-steps case.week (open_off_at case driver) (capacity_at case driver) (partial_of (record { steps = steps })) is.week lawful.office in
    let c = length-reverse steps in
    omega arith

-- so has the duty that was found, where one was
pub some-choice : (case : Case) (driver : ℕ) (pairs : Pairs) (prices : Prices) (found : Option ℤ) (steps read : List Step) →
    IfSome found (IsDutyOf case driver pairs prices steps) → is_some found ≡ true → read ≡ steps →
    IsChoice case driver pairs (record { steps = read })
some-choice case driver pairs prices None steps read f some e = absurd (false-true some)
some-choice case driver pairs prices (Some v) steps read f some e =
    subst (λ (s : List Step). IsChoice case driver pairs (record { steps = s })) (sym e) f.choice

module _ (asked : Asked) (minute : ℕ) (store : LabelStore) (is : IsAsked asked) (s : IsSearch asked minute store) where
  pub all-parents : HaveParents store.slots
  all-parents n slot l h =
      let e = entry-of store.slots n slot h in
      let x = s.list.extended n e.0 l e.1 in omega (arith, x.earlier, e.3)

  exhausted : ((n : ℕ) → IsDoneAt asked store n) →
      AreExhausted asked.case.now asked.driver asked.pairs.now asked.prices.now store.known (entries_of store.slots)
  exhausted done = record {
    labels = have-labels asked.case.now asked.driver asked.pairs.now asked.prices.now (entries_of store.slots) s.list;
    done = λ n e h. done n e h;
    shown = s.shown;
  }

  -- no lawful duty inside has a smaller value than what is known
  pub all-low : ((n : ℕ) → IsDoneAt asked store n) → (duty : Duty) → IsChoice asked.case.now asked.driver asked.pairs.now duty →
      Knows store.known (reduced_cost asked.case.now asked.driver asked.prices.now (partial_of duty))
  all-low done duty choice = by_first (slice_get (entries_of store.slots) 0) refl
    where
      by_first : (o : Option Entry) → slice_get (entries_of store.slots) 0 ≡ o →
          Knows store.known (reduced_cost asked.case.now asked.driver asked.prices.now (partial_of duty))
      by_first None h = absurd (none-some (entries_of store.slots) s.list.some h)
        where
          none-some : (es : List Entry) → 0 < length es → slice_get es 0 ≡ None → ⊥
          none-some [] l e = omega arith
          none-some (x ∷ xs) l e = some-none x e
      by_first (Some e) h =
          exhausts_duties asked.case.now asked.driver asked.pairs.now asked.prices.now store.known (entries_of store.slots) e is.is_case
          (exhausted done) h (s.list.first e h) duty choice

  pub no-duty : ((n : ℕ) → IsDoneAt asked store n) → store.known ≡ None → HasNoDuty asked.case.now asked.driver asked.pairs.now
  no-duty done none duty choice =
      subst (λ (o : Option ℤ). Knows o (reduced_cost asked.case.now asked.driver asked.prices.now (partial_of duty))) none (all-low done duty choice)

  module _ (value : ℤ) (known : store.known ≡ Some value) (number : ℕ) (at : store.best ≡ Some number) where
    best : HasBest asked (entries_of store.slots) number value
    best = subst (λ (b : Option ℕ). IsBest asked (entries_of store.slots) b value) at (s.has_best value known)

    best-partial : partial_at (entries_of store.slots) number ≡ best.entry.partial
    best-partial = ap partial_or_none best.is_entry

    best-lawful : IsLawfulPartialDuty asked.case.now asked.driver best.entry.partial
    best-lawful = (s.list.entry number best.entry best.is_entry).lawful

    pub best-number : number < length store.slots
    best-number =
        let l = slice_get-lt (entries_of store.slots) number best.entry best.is_entry in
        omega (arith, length-entries store.slots)

    pub best-few : length (partial_at (entries_of store.slots) number) ≤ 10080
    best-few =
        let a = early asked.case.now.week (open_off_at asked.case.now asked.driver) (capacity_at asked.case.now asked.driver) best.entry.partial
        best-lawful.office in
        let b = few-steps asked.case.now.week (open_off_at asked.case.now asked.driver) (capacity_at asked.case.now asked.driver) best.entry.partial
        is.is_case.week best-lawful.office in
        let c = ap (λ (f : PartialDuty). length f) best-partial in
        omega arith

    pub least-steps : ((n : ℕ) → IsDoneAt asked store n) → (new : LabelStore) → new.steps ≡ reverse (partial_at (entries_of store.slots) number) →
        HasLeastSteps asked.case.now asked.driver asked.pairs.now asked.prices.now new value
    least-steps done new steps = record {
      duty = duty;
      least = record {
        choice = choice;
        has_value = ap (reduced_cost asked.case.now asked.driver asked.prices.now) path ∙ best.has_value;
        lowest = λ other c. subst (λ (o : Option ℤ). Knows o (reduced_cost asked.case.now asked.driver asked.prices.now (partial_of other))) known
            (all-low done other c);
      };
      steps = steps;
    }
      where
        duty : Duty
        duty = record { steps = reverse (partial_at (entries_of store.slots) number) }

        path : partial_of duty ≡ best.entry.partial
        path = reverse-reverse (partial_at (entries_of store.slots) number) ∙ best-partial

        choice : IsChoice asked.case.now asked.driver asked.pairs.now duty
        choice = record {
          lawful = record {
            partial = subst (λ (f : PartialDuty). IsLawfulPartialDuty asked.case.now asked.driver f) (sym path) best-lawful;
            home = ap place_after path ∙ best.home;
          };
          inside = subst (λ (f : PartialDuty). IsInside asked.case.now.week asked.pairs.now asked.driver f) (sym path) best.inside;
        }

-- or it is the duty that was found beforehand
module _ (asked : Asked) (minute : ℕ) (store : LabelStore) (is : IsAsked asked) (s : IsSearch asked minute store) (value : ℤ)
    (known : store.known ≡ Some value) (none : store.best ≡ None) where
  found : IsDutyOf asked.case.now asked.driver asked.pairs.now asked.prices.now asked.steps.now value
  found = subst (λ (b : Option ℕ). IsBest asked (entries_of store.slots) b value) none (s.has_best value known)

  pub found-few : length asked.steps.now ≤ 10080
  found-few = choice-few asked.case.now asked.driver asked.pairs.now asked.steps.now is.is_case found.choice

  pub least-found : ((n : ℕ) → IsDoneAt asked store n) → (new : LabelStore) → new.steps ≡ asked.steps.now →
      HasLeastSteps asked.case.now asked.driver asked.pairs.now asked.prices.now new value
  least-found done new steps = record {
    duty = record { steps = asked.steps.now };
    least = record {
      choice = found.choice;
      has_value = found.has_value;
      lowest = λ other c. subst (λ (o : Option ℤ). Knows o (reduced_cost asked.case.now asked.driver asked.prices.now (partial_of other))) known
          (all-low asked minute store is s done other c);
    };
    steps = steps;
  }

pub same-least : (asked : Asked) (store : LabelStore) (value other : ℤ) → other ≡ value →
    HasLeastSteps asked.case.now asked.driver asked.pairs.now asked.prices.now store value →
    HasLeastSteps asked.case.now asked.driver asked.pairs.now asked.prices.now store other
same-least asked store value other e h =
    subst (λ (v : ℤ). HasLeastSteps asked.case.now asked.driver asked.pairs.now asked.prices.now store v) (sym e) h
