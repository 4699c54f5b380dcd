-- The line of a partial duty with listed stays, beside that of the partial duty in whose place it stands.
use Rattle.std.proofs.Common.{◌≡◌, ℕ, zero, suc, ◌+◌, ◌-◌, ◌≤◌, ◌<◌, true, false, [], ◌∷◌, refl, sym, ◌∙◌, arith, Option, Some, None, slice_get}
use Rattle.minute_line.specs.declared.marks.Kind.{Kind}
use Rattle.minute_line.specs.declared.marks.Kind.TheVariants.{Plain, Daily, Weekly}
use Rattle.minute_line.specs.declared.marks.Mark.TheVariants.{Ready, Off}
use Rattle.minute_line.specs.declared.lines.History.{History}
use Rattle.minute_line.specs.Minutes.{Minutes, stretch}
use Rattle.minute_line.specs.Marks.{is_rest}
use Rattle.hours_rules.specs.Counts.{open_run}
use Rattle.hours_rules.specs.Rules.{Past, whole}
use Rattle.hours_rules.proofs.Better.{as_good-itself}
use Rattle.hours_rules.proofs.Faults.{block-stands}
use Rattle.duty_plan.specs.declared.duties.Step.{Step}
use Rattle.duty_plan.specs.declared.plans.Case.{Case}
use Rattle.duty_plan.specs.Acts.{mark_of, minutes_of}
use Rattle.duty_plan.specs.PartialDuties.{PartialDuty, place_after, line_after, at_after, start_of, KeepsOffice}
use Rattle.duty_plan.specs.Duties.{IsCase, IsLawfulPartialDuty, past_at, past_or_none, open_off_at, open_or_none, capacity_at}
use Rattle.duty_plan.specs.Labels.{listed_ready}
use Rattle.duty_plan.proofs.Runs.{duty-act, open_at, open_run-history, waits-none, rests-some}
use Rattle.duty_plan.proofs.WeekLimits.{small-act, early, at-step}
use Rattle.hours_rules.proofs.LineClocks.{clock_of, clock-stands}
use Rattle.dominance.proofs.ShiftedRooms.{none-stretch}
use Rattle.dominance.proofs.ShiftedLines.{GoesSooner, sooner-plain, sooner-rest, sooner-same}
use Rattle.dominance.proofs.ShiftedSteps.{DidTheSame, listed_plain, listed_rest, ready-early, start-same, stays-plain}

-- a lawful partial duty without its last step is lawful
pub lawful-before : (case : Case) (driver : ℕ) (step : Step) (before : PartialDuty) → IsLawfulPartialDuty case driver (step ∷ before) →
    IsLawfulPartialDuty case driver before
lawful-before case driver step before l = record {
  office = l.office.1;
  hours =
      let past = past_at case driver in
      let act_minutes : ℕ = minutes_of case.week (place_after before) step.act in
      let waited : Minutes = stretch step.stay.ready Ready Plain (line_after case.week before) in
      let stayed : Minutes = stretch step.stay.off Off Plain waited in
      none-stretch past step.stay.ready Ready Plain (line_after case.week before) (none-stretch past step.stay.off Off Plain waited
      (none-stretch past act_minutes (mark_of step.act) step.stay.kind stayed l.hours));
}

-- ---- the partial duty itself

-- the run that is open where the partial duty ends
run-history : (found : Option History) → open_run (past_or_none found).minutes ≡ open_or_none found
run-history None = refl
run-history (Some h) = open_run-history h

run-partial : (case : Case) (driver : ℕ) (partial : PartialDuty) → IsCase case → IsLawfulPartialDuty case driver partial →
    open_run (whole (past_at case driver) (line_after case.week partial)) ≡ open_at (open_off_at case driver) partial
run-partial case driver [] c l = run-history (slice_get case.past driver)
run-partial case driver (step ∷ before) c l =
    let past : Past = past_at case driver in
    let stayed : Minutes = stretch step.stay.off Off Plain (stretch step.stay.ready Ready Plain (line_after case.week before)) in
    let act_minutes : ℕ = minutes_of case.week (place_after before) step.act in
    let some : 1 ≤ act_minutes = (small-act case.week (place_after before) step.act c.week l.office.0.road).some in
    sym (block-stands (clock_of past stayed) past act_minutes (mark_of step.act) step.stay.kind stayed (duty-act step.act) some
    (clock-stands past stayed)).off

pub goes-itself : (case : Case) (driver : ℕ) (partial : PartialDuty) → IsCase case → IsLawfulPartialDuty case driver partial →
    GoesSooner (past_at case driver) (open_at (open_off_at case driver) partial) (line_after case.week partial) (line_after case.week partial)
goes-itself case driver partial c l =
    let past : Past = past_at case driver in
    let clock = clock_of past (line_after case.week partial) in record {
      first = clock;
      second = clock;
      first_stands = clock-stands past (line_after case.week partial);
      second_stands = clock-stands past (line_after case.week partial);
      sooner = sooner-same clock clock (as_good-itself clock);
      off = run-partial case driver partial c l;
      none = l.hours;
    }

-- ---- one more step

-- a partial duty's line is as good as another's at an earlier or equal minute, and has no fault
abbrev pub PartialDutyGoes : Case → ℕ → PartialDuty → PartialDuty → Type 0
PartialDutyGoes case driver partial old =
    GoesSooner (past_at case driver) (open_at (open_off_at case driver) old) (line_after case.week partial) (line_after case.week old)

-- two partial duties of the driver did the same
abbrev pub PartialDutiesDid : Case → ℕ → PartialDuty → PartialDuty → Type 0
PartialDutiesDid case driver partial old = DidTheSame case.week (open_off_at case driver) partial old

-- the office rules of the driver hold at the step
abbrev pub KeepsAt : Case → ℕ → Step → PartialDuty → Type 0
KeepsAt case driver step before = KeepsOffice case.week (open_off_at case driver) (capacity_at case driver) step before

-- the Off minutes of a listed stay begin no later
pub wait-early : (case : Case) (driver : ℕ) (step : Step) (partial old : PartialDuty) → PartialDutiesDid case driver partial old → KeepsAt case driver step old →
    at_after case.week partial + listed_ready case.week step partial ≤ at_after case.week old + step.stay.ready
wait-early case driver step partial old s k = ready-early case.week (open_off_at case driver) (capacity_at case driver) step partial old s k

none-open : (run ready : ℕ) → (0 < run → ready ≡ 0) → 0 < ready → run ≡ 0
none-open zero ready h l = refl
none-open (suc run) ready h l = absurd (omega (arith, h (omega arith)))

plain_kind : (kind : Kind) → is_rest kind ≡ false → kind ≡ Plain
plain_kind Plain h = refl
plain_kind Daily h = cc
plain_kind Weekly h = cc

-- so it is with a Plain stay listed
pub goes-plain : (case : Case) (driver : ℕ) (step : Step) (partial old : PartialDuty) → IsCase case → PartialDutiesDid case driver partial old →
    PartialDutyGoes case driver partial old → IsLawfulPartialDuty case driver (step ∷ old) → is_rest step.stay.kind ≡ false →
    PartialDutyGoes case driver (listed_plain case.week step partial ∷ partial) (step ∷ old)
goes-plain case driver step partial old c s g l r =
    let open_off = open_off_at case driver in
    let capacity = capacity_at case driver in
    let plain : step.stay.kind ≡ Plain = plain_kind step.stay.kind r in
    let small = small-act case.week (place_after old) step.act c.week l.office.0.road in
    let ready = wait-early case driver step partial old s l.office.0 in
    let stay = stays-plain case.week open_off capacity step partial old s l.office.0 in
    let end : at_after case.week (step ∷ old) ≤ 10080 = early case.week open_off capacity (step ∷ old) l.office in
    rw (s.place, plain) (sooner-plain (past_at case driver) (line_after case.week partial) (line_after case.week old) g.first g.second
    (listed_ready case.week step partial) step.stay.ready step.stay.off (minutes_of case.week (place_after old) step.act) (mark_of step.act)
    (duty-act step.act) small.some (omega (arith, small.few)) g.first_stands g.second_stands g.sooner
    (λ some. g.off ∙ none-open (open_at open_off old) step.stay.ready (waits-none open_off step old l.office.0.stay) some)
    (λ some. g.off ∙ none-open (open_at open_off old) (listed_ready case.week step partial)
    (waits-none open_off (listed_plain case.week step partial) old stay) some)
    (omega (arith, g.first_stands.at, g.second_stands.at, ready))
    (omega (arith, ready, end, at-step case.week step old)) g.none (rw plain at l.hours))

-- and with a rest listed
pub goes-rest : (case : Case) (driver : ℕ) (step : Step) (partial old : PartialDuty) → IsCase case → PartialDutiesDid case driver partial old →
    PartialDutyGoes case driver partial old → IsLawfulPartialDuty case driver (step ∷ old) → is_rest step.stay.kind ≡ true →
    PartialDutyGoes case driver (listed_rest case.week step old partial ∷ partial) (step ∷ old)
goes-rest case driver step partial old c s g l r =
    let open_off = open_off_at case driver in
    let small = small-act case.week (place_after old) step.act c.week l.office.0.road in
    let same = start-same case.week step partial old s.early in
    rw s.place (sooner-rest (past_at case driver) (line_after case.week partial) (line_after case.week old) g.first g.second
    (start_of case.week step old - at_after case.week partial) step.stay.ready step.stay.off
    (minutes_of case.week (place_after old) step.act) (mark_of step.act) step.stay.kind (duty-act step.act) r small.some
    (omega (arith, small.few)) g.first_stands g.second_stands g.sooner
    (λ some. g.off ∙ none-open (open_at open_off old) step.stay.ready (waits-none open_off step old l.office.0.stay) some)
    (omega (arith, same, g.first_stands.at, g.second_stands.at))
    (omega (arith, g.off, rests-some open_off step old l.office.0.stay r)) g.none l.hours)
