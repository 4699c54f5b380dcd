-- Steps with listed stays, in place of steps that follow another partial duty which did the same.
use Rattle.std.proofs.Common.{◌≡◌, ℕ, ◌+◌, ◌-◌, ◌≤◌, Bool, true, false, ◌==◌, [], ◌∷◌, refl, arith, le-leb, Option, Some, None}
use Rattle.std.proofs.lemmas.Bool.{leb-true, eqb-true}
use Rattle.std.proofs.lemmas.Bool.Decides.{nat_tests}
use Rattle.minute_line.specs.declared.marks.Kind.{Kind}
use Rattle.minute_line.specs.declared.marks.Kind.TheVariants.{Plain, Daily, Weekly}
use Rattle.minute_line.specs.Marks.{is_rest}
use Rattle.hours_rules.specs.declared.clocks.Stay.{Stay}
use Rattle.week_book.specs.declared.weeks.Order.{Order}
use Rattle.week_book.specs.declared.weeks.Week.{Week}
use Rattle.week_book.specs.Weeks.{order_of}
use Rattle.duty_plan.specs.declared.duties.Act.{Act}
use Rattle.duty_plan.specs.declared.duties.Act.TheVariants.{Leg, Serve, Load}
use Rattle.duty_plan.specs.declared.duties.Step.{Step}
use Rattle.duty_plan.specs.Acts.{may_start, is_open}
use Rattle.duty_plan.specs.Duties.{cents_after}
use Rattle.duty_plan.specs.PartialDuties.{PartialDuty, place_after, at_after, start_of, used_after, loaded_after, serves, has_lengths, ends_open, has_lawful_length, KeepsOffice}
use Rattle.duty_plan.specs.Labels.{opens_of, closes_of, listed_ready, is_listed}
use Rattle.duty_plan.proofs.Runs.{both}

-- the same step with so many Ready and Off minutes
abbrev pub with_minutes : ℕ → ℕ → Step → Step
with_minutes ready off step = record step { stay = record { ready = ready; off = off; kind = step.stay.kind } }

-- a step with a Plain stay, listed after a partial duty
abbrev pub listed_plain : Week → Step → PartialDuty → Step
listed_plain week step partial = with_minutes (listed_ready week step partial) step.stay.off step

-- a step with a rest, listed after a partial duty, with the start that it has after another
abbrev pub listed_rest : Week → Step → PartialDuty → PartialDuty → Step
listed_rest week step old partial = with_minutes 0 (start_of week step old - at_after week partial) step

-- two partial duties did the same, the first by an earlier or equal minute
pub record DidTheSame (week : Week) (open_off : ℕ) (partial old : PartialDuty) : Type 0 where
  pub early : at_after week partial ≤ at_after week old
  pub place : place_after partial ≡ place_after old
  pub used : used_after week partial ≡ used_after week old
  pub loaded : loaded_after partial ≡ loaded_after old
  pub served : (order : ℕ) → serves order partial ≡ serves order old
  pub cents : cents_after week partial ≡ cents_after week old
  pub begins : ends_open open_off partial ≡ ends_open open_off old

pub same-itself : (week : Week) (open_off : ℕ) (partial : PartialDuty) → DidTheSame week open_off partial partial
same-itself week open_off partial = record {
  early = omega arith;
  place = refl;
  used = refl;
  loaded = refl;
  served = λ order. refl;
  cents = refl;
  begins = refl;
}

-- ---- the minutes of the listed step

-- the Ready minutes that are left until the act may start
abbrev ready_for : Week → Act → ℕ → ℕ → ℕ
ready_for week act at off = elim act [
  | Leg to ↦ 0
  | Serve order ↦ opens_of (order_of week order) - (at + off)
  | Load ↦ 0
]

in-window : (found : Option Order) (start : ℕ) → is_open found start ≡ true → (opens_of found ≤ start) × (start ≤ closes_of found)
in-window None start h = cc
in-window (Some o) start h = let b = both _ _ h in (leb-true o.opens start b.0, leb-true start o.closes b.1)

opens-at : (found : Option Order) (old start : ℕ) → is_open found old ≡ true → opens_of found ≤ start →
    start ≤ closes_of found → is_open found start ≡ true
opens-at None old start h l m = cc
opens-at (Some o) old start h l m = rw (le-leb o.opens start l, le-leb start o.closes m) refl

-- a Plain stay ends no later after those Ready minutes than after the ones that it had
ready_for-early : (week : Week) (act : Act) (at old ready off : ℕ) → at ≤ old → may_start week act (old + ready + off) ≡ true →
    at + ready_for week act at off ≤ old + ready
ready_for-early week (Leg to) at old ready off l h = omega arith
ready_for-early week (Serve order) at old ready off l h = omega (arith, (in-window (order_of week order) (old + ready + off) h).0)
ready_for-early week Load at old ready off l h = omega arith

-- and its act starts within the window
ready_for-opens : (week : Week) (act : Act) (at old ready off : ℕ) → at ≤ old → may_start week act (old + ready + off) ≡ true →
    may_start week act (at + ready_for week act at off + off) ≡ true
ready_for-opens week (Leg to) at old ready off l h = refl
ready_for-opens week Load at old ready off l h = refl
ready_for-opens week (Serve order) at old ready off l h =
    let w = in-window (order_of week order) (old + ready + off) h in
    opens-at (order_of week order) (old + ready + off) _ h (omega arith) (omega (arith, w.0, w.1))

pub ready-early : (week : Week) (open_off capacity : ℕ) (step : Step) (partial old : PartialDuty) → DidTheSame week open_off partial old →
    KeepsOffice week open_off capacity step old → at_after week partial + listed_ready week step partial ≤ at_after week old + step.stay.ready
ready-early week open_off capacity step partial old s k =
    ready_for-early week step.act (at_after week partial) (at_after week old) step.stay.ready step.stay.off s.early k.window

pub opens-plain : (week : Week) (open_off capacity : ℕ) (step : Step) (partial old : PartialDuty) → DidTheSame week open_off partial old →
    KeepsOffice week open_off capacity step old → may_start week step.act (start_of week (listed_plain week step partial) partial) ≡ true
opens-plain week open_off capacity step partial old s k =
    ready_for-opens week step.act (at_after week partial) (at_after week old) step.stay.ready step.stay.off s.early k.window

-- a rest that begins at once ends as late
pub start-same : (week : Week) (step : Step) (partial old : PartialDuty) → at_after week partial ≤ at_after week old →
    start_of week (listed_rest week step old partial) partial ≡ start_of week step old
start-same week step partial old l = omega arith

-- ---- the lengths of its stay

none_begins : (week : Week) (open_off : ℕ) (partial : PartialDuty) → ends_open open_off partial ≡ true → at_after week partial ≡ 0
none_begins week open_off [] h = refl
none_begins week open_off (step ∷ before) h = cc

lengths-plain : (b : Bool) (stay : Stay) (k : ℕ) → has_lengths b stay ≡ true → (b ≡ true → stay.ready ≡ 0 → k ≡ 0) →
    has_lengths b (record { ready = k; off = stay.off; kind = stay.kind }) ≡ true
lengths-plain true stay k h none = let b = both _ _ h in rw (none refl (eqb-true stay.ready 0 b.0)) b.1
lengths-plain false stay k h none = h

lengths-rest : (b : Bool) (kind : Kind) (ready off k : ℕ) → is_rest kind ≡ true →
    has_lengths b (record { ready = ready; off = off; kind = kind }) ≡ true → off ≤ k →
    has_lengths b (record { ready = 0; off = k; kind = kind }) ≡ true
lengths-rest b Plain ready off k r h l = cc
lengths-rest true Daily ready off k r h l = refl
lengths-rest true Weekly ready off k r h l = refl
lengths-rest false Daily ready off k r h l = le-leb 1 k (omega (arith, leb-true 1 off h))
lengths-rest false Weekly ready off k r h l = le-leb 1 k (omega (arith, leb-true 1 off h))

-- a listed Plain stay has no Ready minute after the history's open run, where nothing is earlier
pub stays-plain : (week : Week) (open_off capacity : ℕ) (step : Step) (partial old : PartialDuty) → DidTheSame week open_off partial old →
    KeepsOffice week open_off capacity step old → has_lawful_length open_off (listed_plain week step partial) old ≡ true
stays-plain week open_off capacity step partial old s k =
    lengths-plain (ends_open open_off old) step.stay (listed_ready week step partial) k.stay
    (λ open_run none. omega (arith, ready-early week open_off capacity step partial old s k, none, none_begins week open_off old open_run))

-- a listed rest is no shorter
pub stays-rest : (week : Week) (open_off capacity : ℕ) (step : Step) (partial old : PartialDuty) → DidTheSame week open_off partial old →
    KeepsOffice week open_off capacity step old → is_rest step.stay.kind ≡ true →
    has_lawful_length open_off (listed_rest week step old partial) old ≡ true
stays-rest week open_off capacity step partial old s k r =
    lengths-rest (ends_open open_off old) step.stay.kind step.stay.ready step.stay.off (start_of week step old - at_after week partial)
    r k.stay (omega (arith, s.early))

-- ---- the stay is listed

eqb-itself : (n : ℕ) → (n == n) ≡ true
eqb-itself n = grind (arith, nat_tests)

pub plain-listed : (week : Week) (step : Step) (partial : PartialDuty) → is_rest step.stay.kind ≡ false →
    is_listed week (listed_plain week step partial) partial ≡ true
plain-listed week step partial r = rw r (eqb-itself (listed_ready week step partial))

pub rest-listed : (week : Week) (step : Step) (partial old : PartialDuty) → is_rest step.stay.kind ≡ true →
    is_listed week (listed_rest week step old partial) partial ≡ true
rest-listed week step partial old r = rw r refl
