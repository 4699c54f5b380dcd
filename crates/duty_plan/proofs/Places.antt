-- Where the orders of a lawful plan are.
use Rattle.std.proofs.Common.{◌≡◌, ◌≢◌, ◌⊎◌, inl, inr, ℕ, zero, suc, ◌≤◌, ◌<◌, Bool, true, false, eqb, List, [], ◌∷◌, ◌++◌, length, Some, slice_get, refl, ap, arith}
use Rattle.std.proofs.lemmas.Bool.Decides.{nat_tests}
use Rattle.week_book.specs.declared.weeks.Week.{Week}
use Rattle.week_book.specs.Weeks.{order_of}
use Rattle.duty_plan.specs.declared.duties.Act.{Act}
use Rattle.duty_plan.specs.declared.duties.Act.TheVariants.{Leg, Serve, Load}
use Rattle.duty_plan.specs.declared.duties.Duty.{Duty}
use Rattle.duty_plan.specs.declared.duties.Step.{Step}
use Rattle.duty_plan.specs.declared.plans.Case.{Case}
use Rattle.duty_plan.specs.declared.plans.Plan.{Plan}
use Rattle.duty_plan.specs.Acts.{is_open, may_start, order_of_act}
use Rattle.duty_plan.specs.PartialDuties.{PartialDuty, KeepsOfficeThrough, start_of, used_after}
use Rattle.duty_plan.specs.Duties.{IsLawfulPlan, partial_of, carried, orders_of, times, capacity_at, open_off_at}
use Rattle.duty_plan.specs.Laws.{IsServed}
use Rattle.duty_plan.proofs.WeekLimits.{light}
use Rattle.duty_plan.proofs.Sums.{times-append}

-- what keeps the office rules kept them before
pub keeps-before : (week : Week) (open_off capacity : ℕ) (later partial : PartialDuty) → KeepsOfficeThrough week open_off capacity (later ++ partial) →
    KeepsOfficeThrough week open_off capacity partial
keeps-before week open_off capacity [] partial k = k
keeps-before week open_off capacity (step ∷ later) partial k = keeps-before week open_off capacity later partial k.1

-- the step of a partial duty that serves an order
record At (order : ℕ) (partial : PartialDuty) : Type 0 where
  later : PartialDuty
  step : Step
  before : PartialDuty
  whole : partial ≡ later ++ (step ∷ before)
  serves : step.act ≡ Serve order

one-act : (o : ℕ) (act : Act) → times o (order_of_act act) ≢ 0 → act ≡ Serve o
one-act o (Leg to) h = absurd (h refl)
one-act o Load h = absurd (h refl)
one-act o (Serve order) h = by_test (eqb o order) refl
  where
    by_test : (b : Bool) → eqb o order ≡ b → Serve order ≡ Serve o
    by_test true e = let same : order ≡ o = grind (arith, nat_tests) in ap Serve same
    by_test false e = let none : times o (order ∷ []) ≡ 0 = rw e refl in absurd (h none)

partial-some : (o : ℕ) (partial : PartialDuty) → times o (orders_of partial) ≢ 0 → At o partial
partial-some o [] h = absurd (h refl)
partial-some o (step ∷ before) h = by_count (times o (order_of_act step.act)) refl (λ s. partial-some o before s)
  where
    by_count : (n : ℕ) → times o (order_of_act step.act) ≡ n → (times o (orders_of before) ≢ 0 → At o before) → At o (step ∷ before)
    by_count (suc n) e more = record {
      later = [];
      step = step;
      before = before;
      whole = refl;
      serves = one-act o step.act (λ z. omega arith);
    }
    by_count zero e more =
        let there = more (λ z. h (omega (arith, times-append o (order_of_act step.act) (orders_of before)))) in record {
          later = step ∷ there.later;
          step = there.step;
          before = there.before;
          whole = ap (λ (x : PartialDuty). step ∷ x) there.whole;
          serves = there.serves;
        }

-- the duty that carries an order
record By (order : ℕ) (duties : List Duty) : Type 0 where
  driver : ℕ
  duty : Duty
  of_driver : slice_get duties driver ≡ Some duty
  carries : times order (orders_of (partial_of duty)) ≢ 0

carried-some : (o : ℕ) (duties : List Duty) → times o (carried duties) ≢ 0 → By o duties
carried-some o [] h = absurd (h refl)
carried-some o (duty ∷ rest) h = by_count (times o (orders_of (partial_of duty))) refl (λ s. carried-some o rest s)
  where
    by_count : (n : ℕ) → times o (orders_of (partial_of duty)) ≡ n → (times o (carried rest) ≢ 0 → By o rest) → By o (duty ∷ rest)
    by_count (suc n) e more = record { driver = 0; duty = duty; of_driver = refl; carries = λ z. omega arith }
    by_count zero e more =
        let there = more (λ z. h (omega (arith, times-append o (orders_of (partial_of duty)) (carried rest)))) in
        record { driver = suc there.driver; duty = there.duty; of_driver = there.of_driver; carries = there.carries }

window-open : (week : Week) (order start : ℕ) (act : Act) → act ≡ Serve order → may_start week act start ≡ true → is_open (order_of week order) start ≡ true
window-open week order start act e h = rw e at h

served : (case : Case) (plan : Plan) (order : ℕ) → IsLawfulPlan case plan → times order (carried plan.duties) ≢ 0 → IsServed case plan order
served case plan order l some =
    let by = carried-some order plan.duties some in
    let at = partial-some order (partial_of by.duty) by.carries in
    let office : KeepsOfficeThrough case.week (open_off_at case by.driver) (capacity_at case by.driver) (at.later ++ (at.step ∷ at.before)) =
    rw at.whole at (l.lawful by.driver by.duty by.of_driver).partial.office in
    let here = keeps-before case.week (open_off_at case by.driver) (capacity_at case by.driver) at.later (at.step ∷ at.before) office in record {
      driver = by.driver;
      duty = by.duty;
      later = at.later;
      step = at.step;
      before = at.before;
      of_driver = by.of_driver;
      of_duty = at.whole;
      serves = at.serves;
      inside = window-open case.week order (start_of case.week at.step at.before) at.step.act at.serves here.0.window;
    }

pub each_order : (case : Case) (plan : Plan) → IsLawfulPlan case plan → (order : ℕ) → order < length case.week.orders →
    (IsServed case plan order × (times order (carried plan.duties) ≡ 1) × (times order plan.out ≡ 0))
    ⊎ ((times order (carried plan.duties) ≡ 0) × (times order plan.out ≡ 1))
each_order case plan l order b = by_count (times order (carried plan.duties)) refl
  where
    by_count : (n : ℕ) → times order (carried plan.duties) ≡ n →
        (IsServed case plan order × (times order (carried plan.duties) ≡ 1) × (times order plan.out ≡ 0))
        ⊎ ((times order (carried plan.duties) ≡ 0) × (times order plan.out ≡ 1))
    by_count zero e = inr (e, omega (arith, l.once order b))
    by_count (suc n) e = inl (served case plan order l (λ z. omega arith), omega (arith, l.once order b), omega (arith, l.once order b))

pub never_overloaded : (case : Case) (plan : Plan) → IsLawfulPlan case plan → (driver : ℕ) (duty : Duty) (later before : PartialDuty) →
    slice_get plan.duties driver ≡ Some duty → partial_of duty ≡ later ++ before → used_after case.week before ≤ capacity_at case driver
never_overloaded case plan l driver duty later before d e =
    let office : KeepsOfficeThrough case.week (open_off_at case driver) (capacity_at case driver) (later ++ before) = rw e at (l.lawful driver duty d).partial.office in
    light case.week (open_off_at case driver) (capacity_at case driver) before
    (keeps-before case.week (open_off_at case driver) (capacity_at case driver) later before office)
