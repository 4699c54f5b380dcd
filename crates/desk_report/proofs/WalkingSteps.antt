-- Steps of a lawful duty end in the week, and a walk over them knows where they begin.
use Rattle.std.proofs.Common.{◌≡◌, ℕ, ◌+◌, ◌<◌, ◌≤◌, List, [], ◌∷◌, ◌++◌, length, get_or, take, drop, suc, reverse, refl, ap, arith}
use Rattle.std.proofs.lemmas.Bool.{leb-true}
use Rattle.week_book.specs.declared.weeks.Week.{Week}
use Rattle.week_book.specs.Weeks.{IsWeek}
use Rattle.duty_plan.specs.declared.duties.Step.{Step}
use Rattle.duty_plan.specs.declared.duties.Duty.{Duty}
use Rattle.duty_plan.specs.declared.plans.Case.{Case}
use Rattle.duty_plan.specs.Acts.{minutes_of}
use Rattle.duty_plan.specs.PartialDuties.{PartialDuty, at_after, place_after, start_of, KeepsOfficeThrough}
use Rattle.duty_plan.specs.Duties.{IsLawful, open_off_at, capacity_at, partial_of}
use Rattle.duty_plan.proofs.Lists.{reverse-at, reverse-more}
use Rattle.duty_plan.proofs.WeekLimits.{at-step, small-act}
use Rattle.desk_report.specs.Steps.{StaysInWeek}

-- a partial duty that keeps the office rules stays in the week
stays : (week : Week) (open_off capacity : ℕ) (partial : PartialDuty) → IsWeek week → KeepsOfficeThrough week open_off capacity partial
    → StaysInWeek week partial
stays week open_off capacity [] w k = tt
stays week open_off capacity (step ∷ before) w k =
    let some = (small-act week (place_after before) step.act w k.0.road).some in
    let starts : start_of week step before < at_after week (step ∷ before) = omega (arith, at-step week step before, some) in
    ((starts, leb-true (at_after week (step ∷ before)) 10080 k.0.late), stays week open_off capacity before w k.1)

-- a lawful duty stays in the week
pub lawful-stays : (case : Case) (driver : ℕ) (duty : Duty) → IsWeek case.week → IsLawful case driver duty → StaysInWeek case.week (partial_of duty)
lawful-stays case driver duty w lawful =
    stays case.week (open_off_at case driver) (capacity_at case driver) (partial_of duty) w lawful.partial.office

-- what begins a partial duty that stays in the week stays in it
begins : (week : Week) (later partial : PartialDuty) → StaysInWeek week (later ++ partial) → StaysInWeek week partial
begins week [] partial h = h
begins week (step ∷ later) partial h = begins week later partial h.1

-- where a step of a walk begins and ends, by where the steps before it end
pub record EndsInWeek (week : Week) (at place : ℕ) (step : Step) : Type 0 where
  pub starts : at + step.stay.ready + step.stay.off < 10080
  pub ends : at + step.stay.ready + step.stay.off + minutes_of week place step.act ≤ 10080

pub step-ends : (week : Week) (steps : List Step) (i : ℕ) (step d : Step) (at place : ℕ) → StaysInWeek week (reverse steps) → i < length steps → step ≡ get_or steps i d
    → at ≡ at_after week (reverse (take i steps)) → place ≡ place_after (reverse (take i steps)) → EndsInWeek week at place step
step-ends week steps i step d at place all l e a p =
    let before : PartialDuty = reverse (take i steps) in
    let here : StaysInWeek week (step ∷ before) = begins week (reverse (drop (suc i) steps)) (step ∷ before) (rw (reverse-at steps i step d l e) at all) in
    let same : minutes_of week place step.act ≡ minutes_of week (place_after before) step.act = ap (λ (x : ℕ). minutes_of week x step.act) p in
    let end : at_after week (step ∷ before) ≡ at_after week before + step.stay.ready + step.stay.off + minutes_of week (place_after before) step.act =
    at-step week step before in
    record {
      starts = omega (arith, here.0.0, here.0.1, a);
      ends = omega (arith, here.0.1, a, same, end);
    }

-- the same of the step of that number
pub step-at : (week : Week) (steps : List Step) (i : ℕ) (d : Step) (at place : ℕ) → StaysInWeek week (reverse steps) → i < length steps
    → at ≡ at_after week (reverse (take i steps)) → place ≡ place_after (reverse (take i steps)) → EndsInWeek week at place (get_or steps i d)
step-at week steps i d at place all l a p = step-ends week steps i (get_or steps i d) d at place all l refl a p

-- where one more step ends
pub at-more : (week : Week) (steps : List Step) (i : ℕ) (step d : Step) (at place next : ℕ) → i < length steps → step ≡ get_or steps i d
    → next ≡ at + step.stay.ready + step.stay.off + minutes_of week place step.act
    → at ≡ at_after week (reverse (take i steps)) → place ≡ place_after (reverse (take i steps)) → next ≡ at_after week (reverse (take (i + 1) steps))
at-more week steps i step d at place next l e n a p =
    let before : PartialDuty = reverse (take i steps) in
    let same : minutes_of week place step.act ≡ minutes_of week (place_after before) step.act = ap (λ (x : ℕ). minutes_of week x step.act) p in
    let end : at_after week (step ∷ before) ≡ at_after week before + step.stay.ready + step.stay.off + minutes_of week (place_after before) step.act =
    at-step week step before in
    rw (reverse-more steps i step d l e) (omega (arith, n, a, same, end))
