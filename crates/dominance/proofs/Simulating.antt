-- What may follow a partial duty may follow a better one, also where orders out of its reach are ignored.
use Rattle.std.proofs.Common.{◌≡◌, ℕ, ◌+◌, ◌-◌, ◌<◌, Bool, true, false, ◌||◌, cond, refl, [], ◌∷◌, ◌++◌, length, ap, subst, ◌∙◌, arith, ◌≤ℤ◌}
use Rattle.std.specs.Int.{bit_at}
use Rattle.week_book.specs.declared.weeks.Week.{Week}
use Rattle.duty_plan.specs.declared.duties.Step.{Step}
use Rattle.duty_plan.specs.declared.plans.Case.{Case}
use Rattle.duty_plan.specs.declared.pricing.Prices.{Prices}
use Rattle.duty_plan.specs.declared.labels.Label.{Label}
use Rattle.duty_plan.specs.declared.deciding.Pair.{Pair}
use Rattle.duty_plan.specs.declared.deciding.Pair.TheVariants.{Forced}
use Rattle.duty_plan.specs.declared.deciding.Pairs.{Pairs}
use Rattle.duty_plan.specs.Acts.{mark_of, minutes_of, serves_order}
use Rattle.duty_plan.specs.PartialDuties.{PartialDuty, place_after, line_after, serves}
use Rattle.duty_plan.specs.Duties.{IsLawfulPartialDuty, past_at, open_off_at, capacity_at}
use Rattle.duty_plan.specs.Values.{pair_at, reduced_cost}
use Rattle.duty_plan.specs.Labels.{IsLabelOf, Dominates, forced_orders, is_forced, has_step}
use Rattle.duty_plan.proofs.Bits.{test_bits}
use Rattle.dominance.specs.Completions.{KeepsCompletions, Simulates, delayed, with_ready}
use Rattle.dominance.specs.Reaching.{DominatesWithinAny, IsSimulatedWithin, KeepsCompletionsWithin, ServesWithin, SimulatesWithin}
use Rattle.dominance.proofs.DelayedLines.{before_none}
use Rattle.dominance.proofs.Behind.{ActsWithin, IsBehind, keeps, behind-step}
use Rattle.dominance.proofs.CatchingUp.{bit_less, serves-bit, better-behind}
use Rattle.dominance.proofs.Reaching.{all_orders, serves_known}
use Rattle.dominance.proofs.Costs.{AddsAlike, alike-none, alike-step, alike-cost, alike-value, acts-delayed, orders-delayed}

-- a lawful partial duty, n minutes behind another, where both have grown alike from `better` and `worse`
record Follows (case : Case) (driver : ℕ) (prices : Prices) (forced reach : ℕ) (better worse : PartialDuty) (n : ℕ)
    (first second : PartialDuty) : Type 0 where
  pub lawful : IsLawfulPartialDuty case driver first
  pub behind : IsBehind case driver forced reach n first second
  pub alike : AddsAlike case.week prices better worse first second

-- a lawful partial duty is lawful without its last step
pub lawful-before : (case : Case) (driver : ℕ) (step : Step) (before : PartialDuty) → IsLawfulPartialDuty case driver (step ∷ before) →
    IsLawfulPartialDuty case driver before
lawful-before case driver step before l = record {
  office = l.office.1;
  hours = before_none (past_at case driver) step.stay (mark_of step.act) (minutes_of case.week (place_after before) step.act)
      (line_after case.week before) l.hours;
}

-- one step more, which serves only an order within reach
follow-step : (case : Case) (driver : ℕ) (prices : Prices) (forced reach : ℕ) (better worse : PartialDuty) (n : ℕ) (step : Step)
    (first second : PartialDuty) → Follows case driver prices forced reach better worse n first second → ActsWithin reach step.act →
    IsLawfulPartialDuty case driver (step ∷ second) → Follows case driver prices forced reach better worse 0 (with_ready n step ∷ first) (step ∷ second)
follow-step case driver prices forced reach better worse n step first second f within l =
    let behind = behind-step case driver forced reach n step first second f.behind l.hours in
    record {
      lawful = record {
        office = (
          keeps case driver forced reach n (open_off_at case driver) (capacity_at case driver) step first second f.behind within l.office.0,
          f.lawful.office,
        );
        hours = behind.hours;
      };
      behind = behind;
      alike = alike-step case.week prices n step better worse first second f.behind.place f.alike;
    }

-- a stay that is no longer is the stay
not_longer : (step : Step) → with_ready 0 step ≡ step
not_longer step =
    let e : step.stay.ready + 0 ≡ step.stay.ready = omega arith in
    ap (λ (x : ℕ). record step { stay = record { ready = x; off = step.stay.off; kind = step.stay.kind } }) e

-- what some steps serve is within reach, so what the last and what the earlier ones do
last-within : (reach : ℕ) (step : Step) (more : PartialDuty) → ServesWithin reach (step ∷ more) → ActsWithin reach step.act
last-within reach step more w o s = w o (rw s refl)

earlier-within : (reach : ℕ) (step : Step) (more : PartialDuty) → ServesWithin reach (step ∷ more) → ServesWithin reach more
earlier-within reach step more w o s = w o (either (serves_order o step.act) (serves o more) s)
  where
    either : (x y : Bool) → y ≡ true → (x || y) ≡ true
    either true y h = refl
    either false y h = h

-- the delayed steps after the better partial duty
followed : (case : Case) (driver : ℕ) (prices : Prices) (forced reach : ℕ) (better worse : PartialDuty) (n : ℕ) →
    Follows case driver prices forced reach better worse n better worse → (step : Step) (more : PartialDuty) → ServesWithin reach (step ∷ more) →
    IsLawfulPartialDuty case driver ((step ∷ more) ++ worse) →
    Follows case driver prices forced reach better worse 0 (delayed n (step ∷ more) ++ better) ((step ∷ more) ++ worse)
followed case driver prices forced reach better worse n f step [] w l =
    follow-step case driver prices forced reach better worse n step better worse f (last-within reach step [] w) l
followed case driver prices forced reach better worse n f step (next ∷ more) w l =
    let first = delayed n (next ∷ more) ++ better in
    let second = (next ∷ more) ++ worse in
    let before = followed case driver prices forced reach better worse n f next more (earlier-within reach step (next ∷ more) w)
    (lawful-before case driver step second l) in
    let after = follow-step case driver prices forced reach better worse 0 step first second before (last-within reach step (next ∷ more) w) l in
    subst (λ (x : Step). Follows case driver prices forced reach better worse 0 (x ∷ first) (step ∷ second)) (not_longer step) after

-- what a longer partial duty doesn't serve, the partial duty doesn't
pub unserved-before : (order : ℕ) (partial more : PartialDuty) → serves order (more ++ partial) ≡ false → serves order partial ≡ false
unserved-before order partial [] h = h
unserved-before order partial (step ∷ more) h = unserved-before order partial more (or-right _ _ h)
  where
    or-right : (a b : Bool) → (a || b) ≡ false → b ≡ false
    or-right true b h = cc
    or-right false b h = h

-- the bit of a forced order
forced-bit : (week : Week) (pairs : Pairs) (driver order : ℕ) → order < length week.orders → pair_at pairs driver order ≡ Forced →
    bit_at (forced_orders week pairs driver) order ≡ 1
forced-bit week pairs driver order l e =
    test_bits (λ o. is_forced (pair_at pairs driver o)) (length week.orders) order l
    ∙ ap (λ (x : Pair). cond (is_forced x) 1 0) e

-- the delayed steps serve no order that neither the steps nor the better partial duty serve
still-unserved : (o n : ℕ) (better worse more : PartialDuty) → serves o better ≡ false → serves o (more ++ worse) ≡ false →
    serves o (delayed n more ++ better) ≡ false
still-unserved o n better worse [] b h = b
still-unserved o n better worse (step ∷ []) b h = ap (λ (x : Bool). x || serves o better) (or-left _ _ h) ∙ b
  where
    or-left : (x y : Bool) → (x || y) ≡ false → x ≡ false
    or-left true y h = h
    or-left false y h = refl
still-unserved o n better worse (step ∷ (next ∷ more)) b h =
    ap (λ (x : Bool). x || serves o (delayed n (next ∷ more) ++ better)) (or-left _ _ h)
    ∙ still-unserved o n better worse (next ∷ more) b (or-right _ _ h)
  where
    or-left : (x y : Bool) → (x || y) ≡ false → x ≡ false
    or-left true y h = h
    or-left false y h = refl

    or-right : (x y : Bool) → (x || y) ≡ false → y ≡ false
    or-right true y h = cc
    or-right false y h = h

-- a partial duty that follows so has all that is said of the better one
simulated : (case : Case) (driver : ℕ) (prices : Prices) (forced reach n k : ℕ) (better worse more : PartialDuty) →
    has_step better ≡ true → has_step worse ≡ true →
    reduced_cost case driver prices better ≤ℤ reduced_cost case driver prices worse →
    Follows case driver prices forced reach better worse k (delayed n more ++ better) (more ++ worse) →
    IsSimulatedWithin case driver prices forced better worse more (delayed n more)
simulated case driver prices forced reach n k better worse more hb hw v f =
    let first = delayed n more ++ better in
    let second = more ++ worse in
    let cost = alike-cost case driver prices better worse first second hb hw f.behind.steps.0 f.behind.steps.1 f.alike in
    record {
      lawful = f.lawful;
      place = f.behind.place;
      acts = acts-delayed n more;
      orders = orders-delayed n more;
      early = omega (arith, f.behind.minutes);
      cost = cost;
      value = alike-value case driver prices better worse first second cost f.alike v;
      inside = λ pairs e u i. record {
        forced = λ o l p.
            let bit = ap (λ (x : ℕ). bit_at x o) e ∙ forced-bit case.week pairs driver o l p in f.behind.agree o bit ∙ i.forced o l p;
        barred = λ o l p. still-unserved o n better worse more (u o l p) (i.barred o l p);
      };
    }

pub simulate_within : SimulatesWithin
simulate_within case driver prices forced reach a b better worse more c lf ls la lb fa fb h w lm =
    let n = b.clock.at - a.clock.at in
    let start : Follows case driver prices forced reach better worse n better worse = record {
      lawful = lf;
      behind = better-behind case driver prices forced reach a b better worse c lf ls la lb fa fb h;
      alike = alike-none case.week prices better worse;
    } in
    let value : reduced_cost case driver prices better ≤ℤ reduced_cost case driver prices worse =
    rw (← la.value, ← lb.value) h.value in
    by_steps n start value more w lm
  where
    by_steps : (n : ℕ) → Follows case driver prices forced reach better worse n better worse →
        reduced_cost case driver prices better ≤ℤ reduced_cost case driver prices worse → (more : PartialDuty) → ServesWithin reach more →
        IsLawfulPartialDuty case driver (more ++ worse) → IsSimulatedWithin case driver prices forced better worse more (delayed n more)
    by_steps n start value [] w l =
        simulated case driver prices forced reach n n better worse [] start.behind.steps.0 start.behind.steps.1 value start
    by_steps n start value (step ∷ more) w l =
        simulated case driver prices forced reach n 0 better worse (step ∷ more) start.behind.steps.0 start.behind.steps.1 value
        (followed case driver prices forced reach better worse n start step more w l)

-- and of completions
pub keeps_completions_within : KeepsCompletionsWithin
keeps_completions_within case driver prices forced reach a b better worse more c lf ls la lb fa fb h r done =
    let s = simulate_within case driver prices forced reach a b better worse more c lf ls la lb fa fb h (r more done) done.lawful in
    record { lawful = s.lawful; home = s.place ∙ done.home }

-- ---- no order out of reach

pub betters_within_any : DominatesWithinAny
betters_within_any a b forced reach h = record {
  clock = h.clock;
  place = h.place;
  used = h.used;
  value = h.value;
  loaded = h.loaded;
  among = λ o r. h.among o;
  agree = h.agree;
}

-- a label that betters another serves no order that the other's longer partial duty doesn't serve
less-served : (case : Case) (driver : ℕ) (prices : Prices) (forced : ℕ) (a b : Label) (better worse more : PartialDuty) (o : ℕ) →
    IsLabelOf case driver prices a better → IsLabelOf case driver prices b worse → Dominates a b forced → serves o (more ++ worse) ≡ false →
    serves o better ≡ false
less-served case driver prices forced a b better worse more o la lb h s =
    bit_less (serves o better) (serves o worse) (omega (arith, serves-bit a better o la.served, serves-bit b worse o lb.served, h.among o))
    (unserved-before o worse more s)

pub simulate : Simulates
simulate case driver prices forced a b better worse more c lf ls la lb fa fb h lm =
    let reach = all_orders case.week in
    let s = simulate_within case driver prices forced reach a b better worse more c lf ls la lb fa fb (betters_within_any a b forced reach h)
    (serves_known case driver worse more lm) lm in
    record {
      lawful = s.lawful;
      place = s.place;
      acts = s.acts;
      orders = s.orders;
      cost = s.cost;
      early = s.early;
      value = s.value;
      inside = λ pairs e i. s.inside pairs e
          (λ o l p. less-served case driver prices forced a b better worse more o la lb h (i.barred o l p)) i;
    }

-- and of completions
pub keeps_completions : KeepsCompletions
keeps_completions case driver prices forced a b better worse more c lf ls la lb fa fb h done =
    let s = simulate case driver prices forced a b better worse more c lf ls la lb fa fb h done.lawful in
    record { lawful = s.lawful; home = s.place ∙ done.home }
