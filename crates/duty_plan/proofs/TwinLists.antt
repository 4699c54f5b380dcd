-- Twins share label lists, and right answers.
use Rattle.std.proofs.Common.{◌≡◌, inl, inr, ℕ, zero, suc, ◌^◌, ◌<◌, Bool, not, ◌&&◌, cond, leb, List, length, refl, ap, sym, subst, ◌∙◌, arith, pos, ℤ, ◌-ℤ◌, ◌<ℤ◌, bit_or}
use Rattle.week_book.specs.Weeks.{order_of}
use Rattle.duty_plan.specs.declared.plans.Case.{Case}
use Rattle.duty_plan.specs.declared.deciding.Pair.{Pair}
use Rattle.duty_plan.specs.declared.deciding.Pairs.{Pairs}
use Rattle.duty_plan.specs.declared.pricing.Prices.{Prices}
use Rattle.duty_plan.specs.declared.pricing.Priced.TheVariants.{Least, NoDuty, Spent}
use Rattle.duty_plan.specs.PartialDuties.{PartialDuty, at_after, serves}
use Rattle.duty_plan.specs.Sums.{total_below}
use Rattle.duty_plan.specs.Values.{pair_at, price_at, reduced_cost, is_barred}
use Rattle.duty_plan.specs.Labels.{Dominates, bits_below, is_forced, forced_orders, closes_of}
use Rattle.duty_plan.specs.LabelLists.{Entry, IsEntry, IsExtended, still_open, completion_bound}
use Rattle.duty_plan.specs.Twins.{AreTwins, TwinsShareLists, TwinsStoreAlike, TwinsAnswerAlike}
use Rattle.duty_plan.proofs.Sums.{total-same}
use Rattle.duty_plan.proofs.Twins.{turned, value-twin, inside-twin, twins_are_alike}

bits-same : (f g : ℕ → Bool) (n : ℕ) → ((k : ℕ) → k < n → f k ≡ g k) → bits_below f n ≡ bits_below g n
bits-same f g zero h = refl
bits-same f g (suc n) h =
    ap (λ (x : ℕ). bit_or x (cond (f n) (2 ^ n) 0)) (bits-same f g n (λ k l. h k (omega arith)))
    ∙ ap (λ (b : Bool). bit_or (bits_below g n) (cond b (2 ^ n) 0)) (h n (omega arith))

forced-twin : (case : Case) (pairs : Pairs) (d e : ℕ) → AreTwins case pairs d e → forced_orders case.week pairs d ≡ forced_orders case.week pairs e
forced-twin case pairs d e t =
    bits-same (λ o. is_forced (pair_at pairs d o)) (λ o. is_forced (pair_at pairs e o)) (length case.week.orders) (λ o l. ap is_forced (t.row o l))

open-twin : (case : Case) (pairs : Pairs) (prices : Prices) (d e : ℕ) → AreTwins case pairs d e → (partial : PartialDuty) (order : ℕ) →
    order < length case.week.orders → still_open case.week d pairs prices partial order ≡ still_open case.week e pairs prices partial order
open-twin case pairs prices d e t partial order l =
    ap
    (λ (p : Pair). cond (not (serves order partial) && (not (is_barred p)
    && leb (at_after case.week partial) (closes_of (order_of case.week order)))) (price_at prices order) 0)
    (t.row order l)

bound-twin : (case : Case) (pairs : Pairs) (prices : Prices) (d e : ℕ) → AreTwins case pairs d e → (partial : PartialDuty) →
    completion_bound case d pairs prices partial ≡ completion_bound case e pairs prices partial
bound-twin case pairs prices d e t partial =
    ap (λ (v : ℤ). v -ℤ pos (total_below (still_open case.week d pairs prices partial) (length case.week.orders))) (value-twin case pairs prices d e t partial)
    ∙ ap (λ (n : ℕ). reduced_cost case e prices partial -ℤ pos n)
    (total-same (still_open case.week d pairs prices partial) (still_open case.week e pairs prices partial) (length case.week.orders)
    (λ o l. open-twin case pairs prices d e t partial o l))

entry-twin : (case : Case) (pairs : Pairs) (prices : Prices) (d e : ℕ) → AreTwins case pairs d e → (entry : Entry) →
    IsEntry case d pairs prices entry → IsEntry case e pairs prices entry
entry-twin case pairs prices d e t entry is =
    let alike = twins_are_alike case pairs prices d e t in
    record {
      label = alike.label entry.label entry.partial is.label;
      lawful = alike.lawful entry.partial is.lawful;
      listed = is.listed;
      unbarred = λ o l h. is.unbarred o l (t.row o l ∙ h);
    }

extended-twin : (case : Case) (pairs : Pairs) (prices : Prices) (d e : ℕ) → AreTwins case pairs d e → (entries : List Entry) (n : ℕ) (entry : Entry) →
    IsExtended case d prices entries n entry → IsExtended case e prices entries n entry
extended-twin case pairs prices d e t entries n entry is =
    let alike = twins_are_alike case pairs prices d e t in
    record {
      from = is.from;
      step = is.step;
      before = is.before;
      earlier = is.earlier;
      is_from = is.is_from;
      is_step = is.is_step;
      has_label = alike.label is.from.label is.before is.has_label;
    }

pub twins_share_lists : TwinsShareLists
twins_share_lists case pairs prices d e t entries l = record {
  some = l.some;
  entry = λ n x h. entry-twin case pairs prices d e t x (l.entry n x h);
  first = l.first;
  extended = λ n x p h. extended-twin case pairs prices d e t entries n x (l.extended n x p h);
  not_bettered = λ n k x b p q h i better.
      l.not_bettered n k x b p q h i (subst (λ (f : ℕ). Dominates b.label x.label f) (sym (forced-twin case pairs d e t)) better);
  best_extended = λ n k child x b c p q r other h i j parent better.
      l.best_extended n k child x b c p q r other h i j parent
      (subst (λ (f : ℕ). Dominates b.label x.label f) (sym (forced-twin case pairs d e t)) better);
  on_time = λ n o x p h lo f late. l.on_time n o x p h lo (t.row o lo ∙ f) late;
  hopeful = λ n k x known p h i home inside.
      let low : completion_bound case d pairs prices x.partial <ℤ reduced_cost case d prices known.partial =
      l.hopeful n k x known p h i home (inside-twin case pairs e d (turned case pairs d e t) known.partial inside) in
      subst (λ (v : ℤ). completion_bound case e pairs prices x.partial <ℤ v) (value-twin case pairs prices d e t known.partial)
      (subst (λ (v : ℤ). v <ℤ reduced_cost case d prices known.partial) (bound-twin case pairs prices d e t x.partial) low);
}

pub twins_store_alike : TwinsStoreAlike
twins_store_alike case pairs prices d e t stored (inl none) = inl none
twins_store_alike case pairs prices d e t stored (inr s) = inr (s.0, twins_share_lists case pairs prices d e t s.0 s.1, s.2)

pub twins_answer_alike : TwinsAnswerAlike
twins_answer_alike m case pairs prices d e t (Least value duty) is = (twins_are_alike case pairs prices d e t).least value duty is
twins_answer_alike m case pairs prices d e t NoDuty is = (twins_are_alike case pairs prices d e t).none is
twins_answer_alike m case pairs prices d e t (Spent stored) is = (is.0, twins_store_alike case pairs prices d e t stored is.1)
