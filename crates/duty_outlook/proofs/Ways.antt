-- Each way home of a half-made duty has a timetable.
use Rattle.std.proofs.Common.{◌≡◌, ℕ, ◌+◌, ◌≤◌, ◌||◌, not, Bool, true, false, List, [], ◌∷◌, ◌++◌, refl, ap, subst, ◌∙◌, arith, eqb, ltb, leb, ◌-ℤ◌, ◌≤ℤ◌, length}
use Rattle.std.proofs.lemmas.Bool.{leb-true, ltb-true, and_parts}
use Rattle.std.proofs.lemmas.Bool.Decides.{nat_tests}
use Rattle.std.proofs.lemmas.Int.{ints}
use Rattle.week_book.specs.declared.weeks.Week.{Week}
use Rattle.duty_plan.specs.declared.duties.Act.{Act}
use Rattle.duty_plan.specs.declared.duties.Act.TheVariants.{Leg, Serve, Load}
use Rattle.duty_plan.specs.declared.duties.Step.{Step}
use Rattle.duty_plan.specs.declared.plans.Case.{Case}
use Rattle.duty_plan.specs.declared.deciding.Pair.{Pair}
use Rattle.duty_plan.specs.declared.deciding.Pair.TheVariants.{Free, Forced, Barred}
use Rattle.duty_plan.specs.declared.deciding.Pairs.{Pairs}
use Rattle.duty_plan.specs.declared.pricing.Prices.{Prices}
use Rattle.duty_plan.specs.Acts.{used_by, loaded_by, serves_order, order_of_act, kg_of}
use Rattle.duty_plan.specs.PartialDuties.{PartialDuty, place_after, at_after, start_of, serves, used_after, loaded_after, may_carry, is_new, KeepsOffice, KeepsOfficeThrough}
use Rattle.duty_plan.specs.Duties.{orders_of, open_off_at, capacity_at}
use Rattle.duty_plan.specs.Values.{price_at, reduced_cost, pair_at, is_barred}
use Rattle.duty_plan.proofs.Sums.{worth-append}
use Rattle.duty_plan.proofs.WeekLimits.{at-step}
use Rattle.week_book.specs.Weeks.{order_of}
use Rattle.duty_outlook.specs.Timetables.{Stop, MayDo, IsTimetable, is_undone, saved_by, saving, load_after, done_after}
use Rattle.duty_outlook.specs.Covering.{is_barred_for}
use Rattle.duty_outlook.specs.Laws.{HasTimetable}

-- a step takes no more off the value than its act saves
falls-act : (case : Case) (driver : ℕ) (prices : Prices) (step : Step) (before : PartialDuty) →
    (reduced_cost case driver prices before -ℤ saved_by case.week prices (place_after before) step.act)
    ≤ℤ reduced_cost case driver prices (step ∷ before)
falls-act case driver prices step [] = omega (arith, ints, worth-append (price_at prices) (order_of_act step.act) [])
falls-act case driver prices step (last ∷ before) =
    omega (arith, ints, worth-append (price_at prices) (order_of_act step.act) (orders_of (last ∷ before)))

-- once the lorry was loaded, the kg that count are those that were served
loaded-act : (week : Week) (capacity : ℕ) (act : Act) (before : PartialDuty) → loaded_by act (loaded_after before) ≡ true →
    (loaded_after before ≡ true → load_after week capacity before ≡ used_after week before) →
    used_by week act (load_after week capacity before) ≡ used_by week act (used_after week before)
loaded-act week capacity (Leg to) before h more = more h
loaded-act week capacity (Serve order) before h more = ap (λ (x : ℕ). kg_of (order_of week order) + x) (more h)
loaded-act week capacity Load before h more = refl

pub load-loaded : (week : Week) (capacity : ℕ) (partial : PartialDuty) → loaded_after partial ≡ true →
    load_after week capacity partial ≡ used_after week partial
load-loaded week capacity [] h = cc
load-loaded week capacity (step ∷ before) h = loaded-act week capacity step.act before h (λ e. load-loaded week capacity before e)

-- before that they leave no room
empty-act : (week : Week) (capacity : ℕ) (act : Act) (before : PartialDuty) → loaded_by act (loaded_after before) ≡ false →
    (loaded_after before ≡ false → capacity + 1 ≤ load_after week capacity before) →
    capacity + 1 ≤ used_by week act (load_after week capacity before)
empty-act week capacity (Leg to) before h more = more h
empty-act week capacity (Serve order) before h more = omega (arith, more h)
empty-act week capacity Load before h more = cc

pub load-empty : (week : Week) (capacity : ℕ) (partial : PartialDuty) → loaded_after partial ≡ false →
    capacity + 1 ≤ load_after week capacity partial
load-empty week capacity [] h = omega arith
load-empty week capacity (step ∷ before) h = empty-act week capacity step.act before h (λ e. load-empty week capacity before e)

or-assoc : (a b c : Bool) → (a || (b || c)) ≡ ((a || b) || c)
or-assoc true b c = refl
or-assoc false b c = refl

-- the orders that are done are those that the partial duty serves, and the barred ones
pub done-partial : (barred : ℕ → Bool) (partial : PartialDuty) (order : ℕ) → done_after barred partial order ≡ (serves order partial || barred order)
done-partial barred [] order = refl
done-partial barred (step ∷ before) order =
    ap (λ (x : Bool). serves_order order step.act || x) (done-partial barred before order)
    ∙ or-assoc (serves_order order step.act) (serves order before) (barred order)

-- no barred order is served
abbrev IsUnbarred : (ℕ → Bool) → PartialDuty → Type 0
IsUnbarred barred partial = (order : ℕ) → barred order ≡ true → serves order partial ≡ false

unbarred-before : (barred : ℕ → Bool) (step : Step) (before : PartialDuty) → IsUnbarred barred (step ∷ before) → IsUnbarred barred before
unbarred-before barred step before u order b = by_test (serves_order order step.act) (u order b)
  where
    by_test : (here : Bool) → (here || serves order before) ≡ false → serves order before ≡ false
    by_test true h = cc
    by_test false h = h

not-barred : (barred : ℕ → Bool) (order : ℕ) (stay : Step) (before : PartialDuty) → stay.act ≡ Serve order → IsUnbarred barred (stay ∷ before) → barred order ≡ false
not-barred barred order step before e u = by_test (barred order) refl
  where
    by_test : (b : Bool) → barred order ≡ b → barred order ≡ false
    by_test true h =
        let same : eqb order order ≡ true = grind (arith, nat_tests) in
        let here : serves_order order step.act ≡ true = ap (serves_order order) e ∙ same in
        let served : serves order (step ∷ before) ≡ true = ap (λ (x : Bool). x || serves order before) here in
        let unserved = u order h in
        cc
    by_test false h = h

undone-act : (barred : ℕ → Bool) (step : Step) (before : PartialDuty) → IsUnbarred barred (step ∷ before) → is_new step.act before ≡ true →
    is_undone (done_after barred before) step.act ≡ true
undone-act barred step before u n = by_act step.act refl n
  where
    by_act : (act : Act) → step.act ≡ act → is_new act before ≡ true → is_undone (done_after barred before) act ≡ true
    by_act (Leg to) e n = refl
    by_act (Serve order) e n =
        rw (done-partial barred before order, not-barred barred order step before e u) (by_test (serves order before) n)
      where
        by_test : (b : Bool) → not b ≡ true → not (b || false) ≡ true
        by_test true h = h
        by_test false h = refl
    by_act Load e n = refl

room-act : (week : Week) (capacity : ℕ) (before : PartialDuty) (act : Act) →
    may_carry week capacity (loaded_after before) (used_after week before) act ≡ true →
    may_carry week capacity true (load_after week capacity before) act ≡ true
room-act week capacity before (Leg to) h = refl
room-act week capacity before Load h = refl
room-act week capacity before (Serve order) h =
    let parts = and_parts (loaded_after before) (leb (kg_of (order_of week order) + used_after week before) capacity) h in
    rw (load-loaded week capacity before parts.0) parts.1

-- a step's act may be done when it starts
may-act : (week : Week) (open_off capacity : ℕ) (barred : ℕ → Bool) (step : Step) (before : PartialDuty) →
    KeepsOffice week open_off capacity step before → IsUnbarred barred (step ∷ before) →
    MayDo week capacity (done_after barred before) (place_after before) (start_of week step before) (load_after week capacity before) step.act
may-act week open_off capacity barred step before k u = record {
  road = k.road;
  window = k.window;
  late = omega (arith, leb-true (at_after week (step ∷ before)) 10080 k.late, at-step week step before);
  room = room-act week capacity before step.act k.load;
  undone = undone-act barred step before u k.twice;
}

-- a timetable from where a partial duty leaves the driver
abbrev From : Week → ℕ → (ℕ → Bool) → PartialDuty → List Stop → Type 0
From week capacity barred partial stops =
    IsTimetable week capacity (done_after barred partial) (place_after partial) (at_after week partial) (load_after week capacity partial) stops

-- the step, and then a timetable from where it leaves the driver, is one from before it
from-step : (week : Week) (open_off capacity : ℕ) (barred : ℕ → Bool) (step : Step) (before : PartialDuty) (rest : List Stop) →
    KeepsOffice week open_off capacity step before → IsUnbarred barred (step ∷ before) → From week capacity barred (step ∷ before) rest →
    From week capacity barred before (record { start = start_of week step before; act = step.act } ∷ rest)
from-step week open_off capacity barred step before rest k u t = (
  omega arith,
  may-act week open_off capacity barred step before k u,
  subst (λ (at : ℕ). IsTimetable week capacity (done_after barred (step ∷ before)) (place_after (step ∷ before)) at
      (load_after week capacity (step ∷ before)) rest) (at-step week step before) t,
)

-- the steps, and then a timetable from where they leave the driver, give one from before them
from-steps : (case : Case) (driver open_off capacity : ℕ) (barred : ℕ → Bool) (prices : Prices) (partial more : PartialDuty) (rest : List Stop) →
    KeepsOfficeThrough case.week open_off capacity (more ++ partial) → IsUnbarred barred (more ++ partial) →
    From case.week capacity barred (more ++ partial) rest → (stops : List Stop) × From case.week capacity barred partial stops
    × ((reduced_cost case driver prices partial -ℤ saving case.week prices (place_after partial) stops)
    ≤ℤ (reduced_cost case driver prices (more ++ partial) -ℤ saving case.week prices (place_after (more ++ partial)) rest))
from-steps case driver open_off capacity barred prices partial [] rest k u t = (rest, t, omega (arith, ints))
from-steps case driver open_off capacity barred prices partial (step ∷ more) rest k u t =
    let before = more ++ partial in
    let stop : Stop = record { start = start_of case.week step before; act = step.act } in
    let found = from-steps case driver open_off capacity barred prices partial more (stop ∷ rest) k.1 (unbarred-before barred step before u)
    (from-step case.week open_off capacity barred step before rest k.0 u t) in
    let falls = falls-act case driver prices step before in
    let later = found.2 in
    (found.0, found.1, omega (arith, ints, falls, later))

inside-unbarred : (case : Case) (driver : ℕ) (pairs : Pairs) (partial : PartialDuty) →
    ((order : ℕ) → ltb order (length case.week.orders) ≡ true → pair_at pairs driver order ≡ Barred → serves order partial ≡ false) →
    IsUnbarred (is_barred_for case.week pairs driver) partial
inside-unbarred case driver pairs partial h order b =
    let parts = and_parts (ltb order (length case.week.orders)) (is_barred (pair_at pairs driver order)) b in
    h order parts.0 (by_pair (pair_at pairs driver order) parts.1)
  where
    by_pair : (pair : Pair) → is_barred pair ≡ true → pair ≡ Barred
    by_pair Free h = cc
    by_pair Forced h = cc
    by_pair Barred h = refl

pub has_timetable : HasTimetable
has_timetable case driver pairs prices partial more w =
    let found = from-steps case driver (open_off_at case driver) (capacity_at case driver) (is_barred_for case.week pairs driver) prices partial more []
    w.lawful.office
    (inside-unbarred case driver pairs (more ++ partial) (λ o l p. w.inside.barred o (ltb-true o (length case.week.orders) l) p))
    w.home in
    (found.0, found.1, omega (arith, ints, found.2))
