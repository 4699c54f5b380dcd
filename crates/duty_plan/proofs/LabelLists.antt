-- The label list of one label, and that no label stands twice.
use Rattle.std.proofs.Common.{◌≡◌, ◌≢◌, ℕ, zero, suc, ◌<◌, true, false, List, [], ◌∷◌, refl, ap, sym, subst, ◌∙◌, arith, Some, slice_get}
use Rattle.std.proofs.lemmas.Int.{ints}
use Rattle.duty_plan.specs.declared.plans.Case.{Case}
use Rattle.duty_plan.specs.declared.labels.Label.{Label}
use Rattle.duty_plan.specs.declared.deciding.Pairs.{Pairs}
use Rattle.duty_plan.specs.declared.pricing.Prices.{Prices}
use Rattle.duty_plan.specs.Labels.{IsLabelOf, Dominates, has_step, forced_orders}
use Rattle.duty_plan.specs.LabelLists.{Entry, IsEntry, IsLabelList}
use Rattle.duty_plan.specs.LabelLaws.{alone}

pub better-self : (label : Label) (forced : ℕ) → Dominates label label forced
better-self label forced = record {
  clock = record {
    at = omega arith;
    day_from = omega (arith, ints);
    rest_from = omega (arith, ints);
    period = omega arith;
    half = refl;
    drive_day = omega arith;
    long_days = omega arith;
    split = λ h. h;
    reduced = omega arith;
    prev_weekly = λ h. h;
    work_run = omega arith;
    work_day = omega arith;
    pause_day = omega arith;
    drive_week = omega arith;
    work_week = omega arith;
    owed = omega arith;
    due = λ some. omega (arith, ints);
  };
  place = refl;
  used = omega arith;
  value = omega (arith, ints);
  loaded = λ h. h;
  among = λ o. omega arith;
  agree = λ o f. refl;
}

pub only-first : {X : Type 0} (x y : X) (n : ℕ) → slice_get (x ∷ []) n ≡ Some y → (n ≡ 0) × (x ≡ y)
only-first x y zero h = (refl, cc)
only-first x y (suc n) h = cc

pub list_alone : (case : Case) (driver : ℕ) (pairs : Pairs) (prices : Prices) (label : Label) → IsLabelOf case driver prices label [] →
    IsLabelList case driver pairs prices (alone label)
list_alone case driver pairs prices label is = record {
  some = omega arith;
  entry = λ n e h. subst (λ (x : Entry). IsEntry case driver pairs prices x) (only-first _ e n h).1 first;
  first = λ e h. sym (ap (λ (x : Entry). x.partial) (only-first _ e 0 h).1);
  extended = λ n e l h. let z = (only-first _ e n h).0 in absurd (omega arith);
  not_bettered = λ n k e b l m h i j. let z = (only-first _ e n h).0 in absurd (omega arith);
  best_extended = λ n k c e b d l m o p h i j q r. let z = (only-first _ e n h).0 in absurd (omega arith);
  on_time = λ n o e l h m p c. let z = (only-first _ e n h).0 in absurd (omega arith);
  hopeful = λ n k e b l h i p q. let z = (only-first _ e n h).0 in absurd (omega arith);
}
  where
    first : IsEntry case driver pairs prices (record { label = label; partial = []; parent = 0 })
    first = record { label = is; lawful = record { office = tt; hours = refl }; listed = tt; unbarred = λ o l h. refl }

pub no_repeat : (case : Case) (driver : ℕ) (pairs : Pairs) (prices : Prices) (entries : List Entry) →
    IsLabelList case driver pairs prices entries → (n k : ℕ) (e f : Entry) → k < n → slice_get entries n ≡ Some e →
    slice_get entries k ≡ Some f → e.label ≢ f.label
no_repeat case driver pairs prices entries list n zero e f l h i same =
    let empty : f.partial ≡ [] = list.first f i in
    let step = list.extended n e (omega arith) h in
    let paid : e.label.fee_paid ≡ true = (list.entry n e h).label.fee_paid ∙ ap has_step step.is_step in
    let unpaid : f.label.fee_paid ≡ false = (list.entry 0 f i).label.fee_paid ∙ ap has_step empty in
    let equal : e.label.fee_paid ≡ f.label.fee_paid = ap (λ (x : Label). x.fee_paid) same in cc
no_repeat case driver pairs prices entries list n (suc k) e f l h i same =
    list.not_bettered n (suc k) e f (omega arith) l h i
    (subst (λ (x : Label). Dominates f.label x (forced_orders case.week pairs driver)) (sym same) (better-self f.label _))
