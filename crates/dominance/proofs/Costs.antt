-- What the same steps add to the cost and the orders of two partial duties at one place.
use Rattle.std.proofs.Common.{◌≡◌, ℕ, ◌+◌, true, not, ◌&&◌, eqb, cond, List, [], ◌∷◌, ◌++◌, refl, ap, arith, ◌≤ℤ◌}
use Rattle.std.proofs.lemmas.Int.{ints}
use Rattle.minute_line.specs.Marks.{is_daily}
use Rattle.week_book.specs.declared.weeks.Week.{Week}
use Rattle.week_book.specs.Weeks.{driver_of}
use Rattle.duty_plan.specs.declared.duties.Act.{Act}
use Rattle.duty_plan.specs.declared.duties.Step.{Step}
use Rattle.duty_plan.specs.declared.plans.Case.{Case}
use Rattle.duty_plan.specs.declared.pricing.Prices.{Prices}
use Rattle.duty_plan.specs.Acts.{cents_of_act, order_of_act}
use Rattle.duty_plan.specs.PartialDuties.{PartialDuty, place_after}
use Rattle.duty_plan.specs.Duties.{night_of, cents_after, cost_after, fee_or_none, orders_of, worth}
use Rattle.duty_plan.specs.Values.{price_at, reduced_cost}
use Rattle.duty_plan.specs.Labels.{has_step}
use Rattle.duty_plan.proofs.Sums.{worth-append}
use Rattle.dominance.specs.Completions.{acts_of, with_ready, delayed}

-- delayed steps do the same acts
pub acts-delayed : (n : ℕ) (more : PartialDuty) → acts_of (delayed n more) ≡ acts_of more
acts-delayed n [] = refl
acts-delayed n (step ∷ []) = refl
acts-delayed n (step ∷ (next ∷ more)) = ap (λ (x : List Act). step.act ∷ x) (acts-delayed n (next ∷ more))

-- and serve the same orders
pub orders-delayed : (n : ℕ) (more : PartialDuty) → orders_of (delayed n more) ≡ orders_of more
orders-delayed n [] = refl
orders-delayed n (step ∷ []) = refl
orders-delayed n (step ∷ (next ∷ more)) = ap (λ (x : List ℕ). order_of_act step.act ++ x) (orders-delayed n (next ∷ more))

-- from `better` to `first` the cents grow, and what the orders are worth, as from `worse` to `second`
pub record AddsAlike (week : Week) (prices : Prices) (better worse first second : PartialDuty) : Type 0 where
  pub cents : cents_after week first + cents_after week worse ≡ cents_after week second + cents_after week better
  pub orders : worth (price_at prices) (orders_of first) + worth (price_at prices) (orders_of worse)
      ≡ worth (price_at prices) (orders_of second) + worth (price_at prices) (orders_of better)

pub alike-none : (week : Week) (prices : Prices) (better worse : PartialDuty) → AddsAlike week prices better worse better worse
alike-none week prices better worse = record { cents = omega arith; orders = omega arith }

pub alike-step : (week : Week) (prices : Prices) (n : ℕ) (step : Step) (better worse first second : PartialDuty) →
    place_after first ≡ place_after second → AddsAlike week prices better worse first second →
    AddsAlike week prices better worse (with_ready n step ∷ first) (step ∷ second)
alike-step week prices n step better worse first second p a =
    let night : night_of week (with_ready n step) first ≡ night_of week step second =
    ap (λ (x : ℕ). cond (is_daily step.stay.kind && not (eqb x 0)) week.night 0) p in
    let act : cents_of_act week (place_after first) step.act ≡ cents_of_act week (place_after second) step.act =
    ap (λ (x : ℕ). cents_of_act week x step.act) p in
    record {
      cents = omega (arith, a.cents, night, act);
      orders = omega (
        arith,
        a.orders,
        worth-append (price_at prices) (order_of_act step.act) (orders_of first),
        worth-append (price_at prices) (order_of_act step.act) (orders_of second),
      );
    }

-- the fee is paid at the first step
cost-paid : (case : Case) (driver : ℕ) (partial : PartialDuty) → has_step partial ≡ true →
    cost_after case driver partial ≡ fee_or_none (driver_of case.week driver) + cents_after case.week partial
cost-paid case driver [] h = cc
cost-paid case driver (step ∷ before) h = refl

-- the cost of the steps is the same
pub alike-cost : (case : Case) (driver : ℕ) (prices : Prices) (better worse first second : PartialDuty) →
    has_step better ≡ true → has_step worse ≡ true → has_step first ≡ true → has_step second ≡ true →
    AddsAlike case.week prices better worse first second →
    cost_after case driver first + cost_after case driver worse ≡ cost_after case driver second + cost_after case driver better
alike-cost case driver prices better worse first second hb hw hf hs a =
    omega (
      arith,
      a.cents,
      cost-paid case driver better hb,
      cost-paid case driver worse hw,
      cost-paid case driver first hf,
      cost-paid case driver second hs,
    )

-- and the value no larger, where it was no larger before them
pub alike-value : (case : Case) (driver : ℕ) (prices : Prices) (better worse first second : PartialDuty) →
    cost_after case driver first + cost_after case driver worse ≡ cost_after case driver second + cost_after case driver better →
    AddsAlike case.week prices better worse first second →
    reduced_cost case driver prices better ≤ℤ reduced_cost case driver prices worse →
    reduced_cost case driver prices first ≤ℤ reduced_cost case driver prices second
alike-value case driver prices better worse first second cost a l = let orders = a.orders in omega (arith, ints)
