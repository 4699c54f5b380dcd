-- Two drivers who are alike.
use Rattle.std.proofs.Common.{◌≡◌, ℕ, ◌+◌, ◌<◌, ◌-ℤ◌, pos, [], ◌∷◌, length, refl, ap, sym, subst, ◌∙◌, ℤ, ◌≤ℤ◌, Option, Some, None, slice_get}
use Rattle.std.specs.Prelude.{option_map}
use Rattle.minute_line.specs.declared.lines.History.{History}
use Rattle.minute_line.specs.Histories.{Fields, fields_of}
use Rattle.hours_rules.specs.Verdicts.{past_from}
use Rattle.hours_rules.specs.Rules.{Past, fault}
use Rattle.hours_rules.specs.Standing.{Stands}
use Rattle.duty_plan.specs.declared.duties.Duty.{Duty}
use Rattle.duty_plan.specs.declared.plans.Case.{Case}
use Rattle.duty_plan.specs.declared.deciding.Pairs.{Pairs}
use Rattle.duty_plan.specs.declared.pricing.Prices.{Prices}
use Rattle.duty_plan.specs.PartialDuties.{PartialDuty, line_after, KeepsOfficeThrough}
use Rattle.duty_plan.specs.Duties.{IsLawfulPartialDuty, past_or_none, open_or_none, open_off_at, capacity_at, cost_after, cents_after, partial_of, orders_of, worth}
use Rattle.duty_plan.specs.Values.{pair_at, price_at, IsInside, IsChoice, reduced_cost}
use Rattle.duty_plan.specs.Twins.{AreAlikeDrivers, AreTwins, TwinsAreAlike}

some-same : {X : Type 0} (a b : X) → Some a ≡ Some b → a ≡ b
some-same a b h = cc

past-same : (one other : Option History) → option_map fields_of one ≡ option_map fields_of other → past_or_none one ≡ past_or_none other
past-same None None e = refl
past-same None (Some b) e = cc
past-same (Some a) None e = cc
past-same (Some a) (Some b) e = ap past_from (some-same (fields_of a) (fields_of b) e)

open-same : (one other : Option History) → option_map fields_of one ≡ option_map fields_of other → open_or_none one ≡ open_or_none other
open-same None None e = refl
open-same None (Some b) e = cc
open-same (Some a) None e = cc
open-same (Some a) (Some b) e = ap (λ (f : Fields). f.open_off) (some-same (fields_of a) (fields_of b) e)

-- drivers who are alike are twins where each order is decided alike for both
pub alike_twins : (case : Case) (pairs : Pairs) (d e : ℕ) → AreAlikeDrivers case d e →
    ((order : ℕ) → order < length case.week.orders → pair_at pairs d order ≡ pair_at pairs e order) → AreTwins case pairs d e
alike_twins case pairs d e alike row = record {
  capacity = alike.capacity;
  fee = alike.fee;
  past = past-same (slice_get case.past d) (slice_get case.past e) alike.history;
  open_off = open-same (slice_get case.past d) (slice_get case.past e) alike.history;
  row = row;
}

pub turned : (case : Case) (pairs : Pairs) (d e : ℕ) → AreTwins case pairs d e → AreTwins case pairs e d
turned case pairs d e t = record {
  capacity = sym t.capacity;
  fee = sym t.fee;
  past = sym t.past;
  open_off = sym t.open_off;
  row = λ o l. sym (t.row o l);
}

lawful-twin : (case : Case) (pairs : Pairs) (d e : ℕ) → AreTwins case pairs d e → (partial : PartialDuty) → IsLawfulPartialDuty case d partial → IsLawfulPartialDuty case e partial
lawful-twin case pairs d e t partial l = record {
  office = subst (λ (x : ℕ). KeepsOfficeThrough case.week x (capacity_at case e) partial) t.open_off
      (subst (λ (x : ℕ). KeepsOfficeThrough case.week (open_off_at case d) x partial) t.capacity l.office);
  hours = ap (λ (x : Past). fault x (line_after case.week partial)) (sym t.past) ∙ l.hours;
}

cost-twin : (case : Case) (pairs : Pairs) (d e : ℕ) → AreTwins case pairs d e → (partial : PartialDuty) → cost_after case d partial ≡ cost_after case e partial
cost-twin case pairs d e t [] = refl
cost-twin case pairs d e t (step ∷ before) = ap (λ (x : ℕ). x + cents_after case.week (step ∷ before)) t.fee

pub value-twin : (case : Case) (pairs : Pairs) (prices : Prices) (d e : ℕ) → AreTwins case pairs d e → (partial : PartialDuty) →
    reduced_cost case d prices partial ≡ reduced_cost case e prices partial
value-twin case pairs prices d e t partial = ap (λ (x : ℕ). pos x -ℤ pos (worth (price_at prices) (orders_of partial))) (cost-twin case pairs d e t partial)

pub inside-twin : (case : Case) (pairs : Pairs) (d e : ℕ) → AreTwins case pairs d e → (partial : PartialDuty) → IsInside case.week pairs d partial → IsInside case.week pairs e partial
inside-twin case pairs d e t partial i = record {
  forced = λ o l h. i.forced o l (t.row o l ∙ h);
  barred = λ o l h. i.barred o l (t.row o l ∙ h);
}

choice-twin : (case : Case) (pairs : Pairs) (d e : ℕ) → AreTwins case pairs d e → (duty : Duty) → IsChoice case d pairs duty → IsChoice case e pairs duty
choice-twin case pairs d e t duty c = record {
  lawful = record { partial = lawful-twin case pairs d e t (partial_of duty) c.lawful.partial; home = c.lawful.home };
  inside = inside-twin case pairs d e t (partial_of duty) c.inside;
}

pub twins_are_alike : TwinsAreAlike
twins_are_alike case pairs prices d e t = record {
  lawful = lawful-twin case pairs d e t;
  label = λ label partial l. record {
    clock = subst (λ (x : Past). Stands label.clock x (line_after case.week partial)) t.past l.clock;
    place = l.place;
    served = l.served;
    used = l.used;
    loaded = l.loaded;
    fee_paid = l.fee_paid;
    value = l.value ∙ value-twin case pairs prices d e t partial;
  };
  choice = choice-twin case pairs d e t;
  least = λ value duty l. record {
    choice = choice-twin case pairs d e t duty l.choice;
    has_value = sym (value-twin case pairs prices d e t (partial_of duty)) ∙ l.has_value;
    lowest = λ other c.
        let low : value ≤ℤ reduced_cost case d prices (partial_of other) = l.lowest other (choice-twin case pairs e d (turned case pairs d e t) other c) in
        subst (λ (x : ℤ). value ≤ℤ x) (value-twin case pairs prices d e t (partial_of other)) low;
  };
  none = λ n duty c. n duty (choice-twin case pairs e d (turned case pairs d e t) duty c);
}
