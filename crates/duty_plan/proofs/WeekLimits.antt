-- How large the numbers of a partial duty that keeps the office rules get.
use Rattle.std.proofs.Common.{◌≡◌, ℕ, zero, suc, ◌+◌, ◌*◌, ◌≤◌, ◌<◌, Bool, true, false, List, [], ◌∷◌, length, Option, Some, None, slice_get, find, All, refl, subst, sym, ◌∙◌, arith, is_some, cond, not, ◌&&◌, ◌==◌}
use Rattle.std.proofs.lemmas.Bool.{leb-true}
use Rattle.std.proofs.lemmas.List.Elements.{All-head, All-tail}
use Rattle.std.proofs.lemmas.Option.{slice_get_within}
use Rattle.hours_rules.proofs.Faults.{length-stretch}
use Rattle.minute_line.specs.declared.marks.Mark.{Mark}
use Rattle.minute_line.specs.declared.marks.Mark.TheVariants.{Ready, Off}
use Rattle.minute_line.specs.declared.marks.Kind.{Kind}
use Rattle.minute_line.specs.declared.marks.Kind.TheVariants.{Plain, Daily, Weekly}
use Rattle.minute_line.specs.Marks.{is_daily}
use Rattle.minute_line.specs.Minutes.{Minutes, stretch}
use Rattle.hours_rules.specs.declared.clocks.Stay.{Stay}
use Rattle.hours_rules.specs.Going.{with_stay}
use Rattle.week_book.specs.declared.weeks.Leg.{Leg as Road}
use Rattle.week_book.specs.declared.weeks.Order.{Order}
use Rattle.week_book.specs.declared.weeks.Driver.{Driver}
use Rattle.week_book.specs.declared.weeks.Week.{Week}
use Rattle.week_book.specs.Weeks.{road, order_of, IsWeek, IsLeg, IsOrder, IsDriver}
use Rattle.duty_plan.specs.declared.duties.Act.{Act}
use Rattle.duty_plan.specs.declared.duties.Act.TheVariants.{Leg, Serve, Load}
use Rattle.duty_plan.specs.declared.duties.Step.{Step}
use Rattle.duty_plan.specs.Acts.{mark_of, minutes_of, minutes_of_road, minutes_of_order, cents_of_act, cents_of_road, can_be_done, is_at, used_by}
use Rattle.duty_plan.specs.PartialDuties.{PartialDuty, at_after, start_of, place_after, line_after, used_after, may_carry, loaded_after, is_length, has_lawful_length, KeepsOfficeThrough}
use Rattle.duty_plan.specs.Duties.{cents_after, night_of}
use Rattle.duty_plan.specs.declared.duty_checks.DutyCheck.{DutyCheck}
use Rattle.minute_line.specs.declared.lines.History.{History}
use Rattle.duty_plan.specs.Positions.{HasBit}
use Rattle.duty_plan.specs.DutyChecks.{StandsFor}

-- what holds of each holds of one that a look-up finds
pub all-slice_get : {X : Type 0} (P : X → Type 0) (xs : List X) (i : ℕ) (x : X) → All P xs → slice_get xs i ≡ Some x → P x
all-slice_get P [] i x a e = cc
all-slice_get P (y ∷ ys) zero x a e = let same : y ≡ x = cc in subst P same (All-head P y ys a)
all-slice_get P (y ∷ ys) (suc i) x a e = all-slice_get P ys i x (All-tail P y ys a) e

-- what holds of each holds of the first that passes
pub all-find : {X : Type 0} (P : X → Type 0) (p : X → Bool) (xs : List X) (x : X) → All P xs → find p xs ≡ Some x → P x
all-find P p [] x a e = cc
all-find P p (y ∷ ys) x a e = by_test (p y) refl (λ h. all-find P p ys x (All-tail P y ys a) h)
  where
    by_test : (b : Bool) → p y ≡ b → (find p ys ≡ Some x → P x) → P x
    by_test true h more = let found : find p (y ∷ ys) ≡ Some y = rw h refl in let same : y ≡ x = cc in subst P same (All-head P y ys a)
    by_test false h more = let later : find p (y ∷ ys) ≡ find p ys = rw h refl in more (sym later ∙ e)

-- an act that can be done takes a minute, at most six hours, and costs at most so much
pub record IsSmall (minutes cents : ℕ) : Type 0 where
  pub some : 1 ≤ minutes
  pub few : minutes ≤ 360
  pub cheap : cents ≤ 1000000

small-road : (week : Week) (from to : ℕ) (found : Option Road) → IsWeek week → road week from to ≡ found → is_some found ≡ true →
    IsSmall (minutes_of_road found) (cents_of_road found)
small-road week from to None w e h = cc
small-road week from to (Some leg) w e h =
    let l : IsLeg (length week.places) leg = all-find (IsLeg (length week.places)) _ week.legs leg w.legs e in record {
      some = l.minutes.0;
      few = omega (arith, l.minutes.1);
      cheap = l.cents;
    }

small-order : (week : Week) (order place : ℕ) (found : Option Order) → IsWeek week → order_of week order ≡ found → is_at found place ≡ true →
    IsSmall (minutes_of_order found) 0
small-order week order place None w e h = cc
small-order week order place (Some o) w e h =
    let l : IsOrder (length week.places) o = all-slice_get (IsOrder (length week.places)) week.orders order o w.orders e in record {
      some = l.service.0;
      few = l.service.1;
      cheap = omega arith;
    }

pub small-act : (week : Week) (place : ℕ) (act : Act) → IsWeek week → can_be_done week place act ≡ true →
    IsSmall (minutes_of week place act) (cents_of_act week place act)
small-act week place (Leg to) w h = small-road week place to (road week place to) w refl h
small-act week place (Serve order) w h = small-order week order place (order_of week order) w refl h
small-act week place Load w h = record { some = w.load.0; few = omega (arith, w.load.1); cheap = omega arith }

-- an order that can be served has a bit
pub has-bit : (week : Week) (place : ℕ) (act : Act) → IsWeek week → can_be_done week place act ≡ true → HasBit act
has-bit week place (Leg to) w h = tt
has-bit week place Load w h = tt
has-bit week place (Serve order) w h = by_order (order_of week order) refl h
  where
    by_order : (found : Option Order) → order_of week order ≡ found → is_at found place ≡ true → order < 128
    by_order None e t = cc
    by_order (Some o) e t = omega (arith, slice_get_within week.orders order o e, w.few.2)

-- the minutes of a stay and an act
pub length-with_stay : (stay : Stay) (mark : Mark) (n : ℕ) (week : Minutes) → length (with_stay stay mark n week) ≡ length week + stay.ready + stay.off + n
length-with_stay stay mark n week =
    omega (
      arith,
      length-stretch n mark stay.kind (stretch stay.off Off Plain (stretch stay.ready Ready Plain week)),
      length-stretch stay.off Off Plain (stretch stay.ready Ready Plain week),
      length-stretch stay.ready Ready Plain week,
    )

pub at-step : (week : Week) (step : Step) (before : PartialDuty) →
    at_after week (step ∷ before) ≡ start_of week step before + minutes_of week (place_after before) step.act
at-step week step before = length-with_stay step.stay (mark_of step.act) (minutes_of week (place_after before) step.act) (line_after week before)

-- each step takes a minute
pub few-steps : (week : Week) (open_off capacity : ℕ) (partial : PartialDuty) → IsWeek week → KeepsOfficeThrough week open_off capacity partial →
    length partial ≤ at_after week partial
few-steps week open_off capacity [] w k = omega arith
few-steps week open_off capacity (step ∷ before) w k =
    omega (
      arith,
      at-step week step before,
      few-steps week open_off capacity before w k.1,
      (small-act week (place_after before) step.act w k.0.road).some,
    )

-- a partial duty ends in the week
pub early : (week : Week) (open_off capacity : ℕ) (partial : PartialDuty) → KeepsOfficeThrough week open_off capacity partial → at_after week partial ≤ 10080
early week open_off capacity [] k = omega arith
early week open_off capacity (step ∷ before) k = leb-true (at_after week (step ∷ before)) 10080 k.0.late

light-step : (week : Week) (capacity used : ℕ) (loaded : Bool) (act : Act) → used ≤ capacity → may_carry week capacity loaded used act ≡ true →
    used_by week act used ≤ capacity
light-step week capacity used loaded (Leg to) l h = l
light-step week capacity used loaded Load l h = omega arith
light-step week capacity used true (Serve order) l h = leb-true _ capacity h
light-step week capacity used false (Serve order) l h = cc

-- a lorry carries no more than it can
pub light : (week : Week) (open_off capacity : ℕ) (partial : PartialDuty) → KeepsOfficeThrough week open_off capacity partial → used_after week partial ≤ capacity
light week open_off capacity [] k = omega arith
light week open_off capacity (step ∷ before) k =
    light-step week capacity (used_after week before) (loaded_after before) step.act (light week open_off capacity before k.1) k.0.load

-- away from the depot a stay has the lengths of its kind
away-length : (open_off : ℕ) (step : Step) (before : PartialDuty) → has_lawful_length open_off step before ≡ true →
    not (place_after before == 0) ≡ true → is_length step.stay.kind step.stay.off ≡ true
away-length open_off step [] h a = cc
away-length open_off step (last ∷ before) h a = h

-- a night has an Off minute
night-cheap : (kind : Kind) (away : Bool) (night off : ℕ) → night ≤ 1000000 → (away ≡ true → is_length kind off ≡ true) →
    cond (is_daily kind && away) night 0 ≤ 1000000 * off
night-cheap Plain away night off h l = omega arith
night-cheap Weekly away night off h l = omega arith
night-cheap Daily false night off h l = omega arith
night-cheap Daily true night off h l = let some : 1 ≤ off = leb-true 1 off (l refl) in omega arith

-- each minute costs at most so much
pub cheap : (week : Week) (open_off capacity : ℕ) (partial : PartialDuty) → IsWeek week → KeepsOfficeThrough week open_off capacity partial →
    cents_after week partial ≤ 1000000 * at_after week partial
cheap week open_off capacity [] w k = omega arith
cheap week open_off capacity (step ∷ before) w k =
    let night : night_of week step before ≤ 1000000 * step.stay.off =
    night-cheap step.stay.kind (not (place_after before == 0)) week.night step.stay.off w.night (away-length open_off step before k.0.stay) in
    let act = small-act week (place_after before) step.act w k.0.road in
    omega (arith, night, at-step week step before, cheap week open_off capacity before w k.1, act.cheap, act.some)

-- the numbers of a walk are small
pub record IsBounded (check : DutyCheck) : Type 0 where
  pub steps : check.steps ≤ 10080
  pub cents : check.cents ≤ 10080000000

pub bounded : (week : Week) (driver : Driver) (history : History) (partial : PartialDuty) (check : DutyCheck) → IsWeek week → IsDriver driver →
    StandsFor week driver history partial check → IsBounded check
bounded week driver history partial check w d s =
    let few = few-steps week history.open_off driver.capacity partial w s.office in
    let end = early week history.open_off driver.capacity partial s.office in record {
      steps = omega (arith, s.steps, few, end);
      cents = omega (arith, s.cents, cheap week history.open_off driver.capacity partial w s.office, end);
    }
