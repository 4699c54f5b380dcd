-- A walk, one step after another.
use Rattle.std.proofs.Common.{◌≡◌, ℕ, ◌<◌, ◌≤◌, ◌+◌, Bool, true, false, refl, ap, sym, ◌∙◌, arith, [], ◌∷◌, List, length, Some, None, option_map, Ok}
use Rattle.std.proofs.lemmas.Bool.{leb-true}
use Rattle.minute_line.specs.declared.marks.Mark.{Mark}
use Rattle.minute_line.specs.declared.marks.Mark.TheVariants.{Ready, Off}
use Rattle.minute_line.specs.declared.marks.Kind.TheVariants.{Plain}
use Rattle.minute_line.specs.declared.lines.History.{History}
use Rattle.minute_line.specs.Marks.{is_rest}
use Rattle.minute_line.specs.Minutes.{Minutes}
use Rattle.hours_rules.specs.declared.clocks.Clock.{Clock}
use Rattle.hours_rules.specs.declared.clocks.Stay.{Stay}
use Rattle.hours_rules.specs.declared.rules.Broken.{Broken}
use Rattle.hours_rules.specs.Rules.{Past, fault_from}
use Rattle.hours_rules.specs.Standing.{Stands, IsClock}
use Rattle.hours_rules.specs.Going.{StandsOrBreaks, with_stay}
use Rattle.hours_rules.specs.Verdicts.{past_of}
use Rattle.hours_rules.proofs.Faults.{fault_stays}
use Rattle.week_book.specs.declared.weeks.Driver.{Driver}
use Rattle.week_book.specs.declared.weeks.Week.{Week}
use Rattle.week_book.specs.Weeks.{IsWeek}
use Rattle.duty_plan.specs.declared.duties.Step.{Step}
use Rattle.duty_plan.specs.declared.positions.StepEffect.{StepEffect}
use Rattle.duty_plan.specs.declared.duty_checks.DutyCheck.{DutyCheck}
use Rattle.duty_plan.specs.Acts.{minutes_of, mark_of}
use Rattle.duty_plan.specs.PartialDuties.{PartialDuty, place_after, at_after, line_after, KeepsOffice, KeepsOfficeThrough}
use Rattle.duty_plan.specs.declared.faults.DutyFault.{DutyFault}
use Rattle.duty_plan.specs.Duties.{night_of}
use Rattle.duty_plan.specs.Positions.{position_of, IsTaken}
use Rattle.duty_plan.specs.Verdicts.{Test, first_failed, numbered, tests_of_step}
use Rattle.duty_plan.specs.DutyChecks.{StandsFor, StandsForSome}
use Rattle.duty_plan.proofs.OfficeSteps.{night-small}
use Rattle.duty_plan.proofs.WeekLimits.{small-act, at-step}
use Rattle.duty_plan.proofs.Runs.{open_at, open_run-partial, waits-none, rests-some, is-clock}

-- a fault stays the first one
pub fault_stays-step : (past : Past) (broken : Broken) (stay : Stay) (mark : Mark) (n : ℕ) (week : Minutes) →
    fault_from 0 past week ≡ Some broken → fault_from 0 past (with_stay stay mark n week) ≡ Some broken
fault_stays-step past broken stay mark n week h =
    fault_stays 0 past broken n mark stay.kind _
    (fault_stays 0 past broken stay.off Off Plain _ (fault_stays 0 past broken stay.ready Ready Plain week h))

-- a step takes a minute, and costs at most so much
pub record IsSmallStep (taken : StepEffect) : Type 0 where
  pub some : 1 ≤ taken.minutes
  pub cheap : taken.cents ≤ 2000000

-- a clock may go on through a step
pub record GoesOn (clock : Clock) (stay : Stay) (minutes : ℕ) : Type 0 where
  pub clock_stands : IsClock clock
  pub some : 0 < minutes
  pub end : clock.at + stay.ready + stay.off + minutes ≤ 10080
  pub ready : 0 < clock.off → stay.ready ≡ 0
  pub run : is_rest stay.kind ≡ true → 0 < clock.off + stay.off

pub goes-on : (week : Week) (capacity : ℕ) (history : History) (before : PartialDuty) (step : Step) (minutes : ℕ) (clock : Clock) → IsWeek week →
    KeepsOfficeThrough week history.open_off capacity before → KeepsOffice week history.open_off capacity step before →
    minutes ≡ minutes_of week (place_after before) step.act → Stands clock (past_of history) (line_after week before) →
    GoesOn clock step.stay minutes
goes-on week capacity history before step minutes clock w o k m s =
    let off : clock.off ≡ open_at history.open_off before = s.off ∙ open_run-partial week history capacity before w o in record {
      clock_stands = is-clock week history history.open_off capacity before clock o s;
      some = omega (arith, m, (small-act week (place_after before) step.act w k.road).some);
      end = omega (arith, m, s.at, at-step week step before, leb-true (at_after week (step ∷ before)) 10080 k.late);
      ready = λ l. waits-none history.open_off step before k.stay (omega (arith, off));
      run = λ r. omega (arith, off, rests-some history.open_off step before k.stay r);
    }

-- what a step that was taken comes to is small
pub small-taken : (week : Week) (open_off capacity : ℕ) (before : PartialDuty) (step : Step) (taken : StepEffect) → IsWeek week →
    IsTaken week open_off capacity before step taken → IsSmallStep taken
small-taken week open_off capacity before step taken w t =
    let act = small-act week (place_after before) step.act w t.office.road in record {
      some = omega (arith, t.minutes, act.some);
      cheap = omega (arith, t.cents, act.cheap, night-small _ week.night (night_of week step before) w.night refl);
    }

-- a walk's clock, where it has one, may go on through a step that was taken
pub goes-check : (week : Week) (driver : Driver) (history : History) (step : Step) (check : DutyCheck) (taken : StepEffect) (clock : Clock) → IsWeek week →
    StandsForSome week driver history check →
    ((before : PartialDuty) → KeepsOfficeThrough week history.open_off driver.capacity before → check.position ≡ position_of week before →
    IsTaken week history.open_off driver.capacity before step taken) → check.hours ≡ Ok clock → GoesOn clock step.stay taken.minutes
goes-check week driver history step check taken clock w h takes hours =
    let good = takes h.partial h.stands.office h.stands.position in
    let stands : Stands clock (past_of history) (line_after week h.partial) × (fault_from 0 (past_of history) (line_after week h.partial) ≡ None) =
    rw hours at h.stands.hours in
    goes-on week driver.capacity history h.partial step taken.minutes clock w h.stands.office good.office good.minutes stands.0

-- the walk after a step stands for the partial duty with the step
pub stands-step : (week : Week) (driver : Driver) (history : History) (before : PartialDuty) (check next : DutyCheck) (step : Step) (taken : StepEffect) →
    StandsFor week driver history before check → IsTaken week history.open_off driver.capacity before step taken →
    next.steps ≡ check.steps + 1 → next.position ≡ taken.position → next.cents ≡ taken.cents + check.cents →
    StandsOrBreaks 0 (past_of history) (with_stay step.stay (mark_of step.act) taken.minutes (line_after week before)) next.hours →
    StandsFor week driver history (step ∷ before) next
stands-step week driver history before check next step taken s t steps position cents hours = record {
  office = (t.office, s.office);
  steps = omega (arith, steps, s.steps);
  position = position ∙ t.position;
  cents = omega (arith, cents, t.cents, s.cents);
  hours = rw t.minutes at hours;
}

-- an office fault of a step, told of the number that it has
pub fault-numbered : (week : Week) (open_off capacity : ℕ) (step : Step) (before : PartialDuty) (fault : DutyFault) →
    option_map (numbered (length before)) (first_failed (tests_of_step week open_off capacity step before)) ≡ Some fault →
    first_failed (tests_of_step week open_off capacity step before) ≡ Some fault
fault-numbered week open_off capacity step before fault h =
    sym (numbered-same (tests_of_step week open_off capacity step before) (refl, (refl, (refl, (refl, (refl, (refl, (refl, (refl, tt))))))))) ∙ h
  where
    AllNumbered : List Test → Type 0
    AllNumbered [] = Unit {0}
    AllNumbered (test ∷ rest) = (numbered (length before) test.fault ≡ test.fault) × AllNumbered rest

    numbered-same : (tests : List Test) → AllNumbered tests → option_map (numbered (length before)) (first_failed tests) ≡ first_failed tests
    numbered-same [] h = refl
    numbered-same (test ∷ rest) h = by_test test.passes refl (numbered-same rest h.1)
      where
        by_test : (b : Bool) → test.passes ≡ b → option_map (numbered (length before)) (first_failed rest) ≡ first_failed rest →
            option_map (numbered (length before)) (first_failed (test ∷ rest)) ≡ first_failed (test ∷ rest)
        by_test true e more = rw e more
        by_test false e more = rw e (ap Some h.0)
