-- The open off run where a step begins.
use Rattle.std.proofs.Common.{◌≡◌, ℕ, zero, suc, ◌+◌, ◌≤◌, ◌<◌, Bool, true, false, ◌&&◌, ltb, List, [], ◌∷◌, fold, refl, arith}
use Rattle.std.proofs.lemmas.Bool.{leb-true, eqb-true}
use Rattle.std.proofs.lemmas.Bool.Decides.{nat_tests}
use Rattle.minute_line.specs.declared.marks.Mark.{Mark}
use Rattle.minute_line.specs.declared.marks.Mark.TheVariants.{Drive, Work, Ready, Off}
use Rattle.minute_line.specs.declared.marks.Kind.{Kind}
use Rattle.minute_line.specs.declared.marks.Kind.TheVariants.{Plain, Daily, Weekly}
use Rattle.minute_line.specs.declared.marks.Stint.{Stint}
use Rattle.minute_line.specs.declared.lines.History.{History}
use Rattle.minute_line.specs.Marks.{is_off, is_duty, is_rest}
use Rattle.minute_line.specs.Minutes.{Minutes, Reached, stretch, add_block, add_stint, nothing, reached_by}
use Rattle.minute_line.specs.Stints.{is_past, may_follow}
use Rattle.hours_rules.specs.declared.clocks.Clock.{Clock}
use Rattle.hours_rules.specs.declared.clocks.Stay.{Stay}
use Rattle.hours_rules.specs.Counts.{open_run}
use Rattle.hours_rules.specs.Rules.{Past, whole}
use Rattle.hours_rules.specs.Standing.{Stands, IsClock}
use Rattle.hours_rules.specs.Verdicts.{past_of}
use Rattle.hours_rules.proofs.Histories.{is_history, carried}
use Rattle.hours_rules.proofs.Starts.{length-past_of}
use Rattle.week_book.specs.declared.weeks.Week.{Week}
use Rattle.week_book.specs.Weeks.{IsWeek}
use Rattle.duty_plan.specs.declared.duties.Act.{Act}
use Rattle.duty_plan.specs.declared.duties.Act.TheVariants.{Leg, Serve, Load}
use Rattle.duty_plan.specs.declared.duties.Step.{Step}
use Rattle.duty_plan.specs.Acts.{mark_of, minutes_of}
use Rattle.duty_plan.specs.PartialDuties.{PartialDuty, line_after, place_after, has_lawful_length, has_lengths, is_length, KeepsOfficeThrough}
use Rattle.duty_plan.proofs.WeekLimits.{small-act, early}

pub both : (a b : Bool) → (a && b) ≡ true → (a ≡ true) × (b ≡ true)
both true b h = (refl, h)
both false b h = cc

-- a run of Off minutes is open
open_run-off : (n : ℕ) (week : Minutes) → open_run (stretch n Off Plain week) ≡ n + open_run week
open_run-off zero week = omega arith
open_run-off (suc n) week = omega (arith, open_run-off n week)

-- no run is open after a minute on duty
open_run-duty : (n : ℕ) (mark : Mark) (kind : Kind) (week : Minutes) → is_duty mark ≡ true → 1 ≤ n → open_run (stretch n mark kind week) ≡ 0
open_run-duty zero mark kind week d l = absurd (omega arith)
open_run-duty (suc n) mark kind week d l = rw d refl

open_run-stint : (after : Bool) (s : Stint) (r : Reached) → may_follow after s ≡ true → is_off s.mark ≡ false → open_run (add_stint r s).minutes ≡ 0
open_run-stint after s r h e = by_mark s.mark s.minutes s.kind (leb-true 1 s.minutes (both _ _ h).0) e
  where
    by_mark : (mark : Mark) (n : ℕ) (kind : Kind) → 1 ≤ n → is_off mark ≡ false → open_run (add_block mark n kind r).minutes ≡ 0
    by_mark Off n kind l f = cc
    by_mark Drive n kind l f = open_run-duty n Drive r.declared r.minutes refl l
    by_mark Work n kind l f = open_run-duty n Work r.declared r.minutes refl l
    by_mark Ready n kind l f = open_run-duty n Ready r.declared r.minutes refl l

-- the stints of a history end on duty
open_run-stints : (after : Bool) (stints : List Stint) (r : Reached) → is_past after stints ≡ true → (after ≡ false → open_run r.minutes ≡ 0) →
    open_run (fold add_stint r stints).minutes ≡ 0
open_run-stints true [] r h e = cc
open_run-stints false [] r h e = e refl
open_run-stints after (s ∷ rest) r h e =
    open_run-stints (is_off s.mark) rest (add_stint r s) (both _ _ h).1 (λ f. open_run-stint after s r (both _ _ (both _ _ h).0).0 f)

-- a history's open run is as long as it says
pub open_run-history : (h : History) → open_run (past_of h).minutes ≡ h.open_off
open_run-history h =
    omega (
      arith,
      open_run-off h.open_off (reached_by h.stints.stints).minutes,
      open_run-stints false h.stints.stints nothing h.shape (λ f. refl),
    )

pub duty-act : (act : Act) → is_duty (mark_of act) ≡ true
duty-act (Leg to) = refl
duty-act (Serve order) = refl
duty-act Load = refl

open_run-whole : (n : ℕ) (mark : Mark) (kind : Kind) (week : Minutes) (past : Past) → is_duty mark ≡ true → 1 ≤ n →
    open_run (whole past (stretch n mark kind week)) ≡ 0
open_run-whole zero mark kind week past d l = absurd (omega arith)
open_run-whole (suc n) mark kind week past d l = rw d refl

-- the run that is open where a partial duty ends
abbrev pub open_at : ℕ → PartialDuty → ℕ
open_at open_off [] = open_off
open_at open_off (step ∷ before) = 0

pub open_run-partial : (week : Week) (h : History) (capacity : ℕ) (partial : PartialDuty) → IsWeek week → KeepsOfficeThrough week h.open_off capacity partial →
    open_run (whole (past_of h) (line_after week partial)) ≡ open_at h.open_off partial
open_run-partial week h capacity [] w k = open_run-history h
open_run-partial week h capacity (step ∷ before) w k =
    open_run-whole (minutes_of week (place_after before) step.act) (mark_of step.act) step.stay.kind _ (past_of h) (duty-act step.act)
    (small-act week (place_after before) step.act w k.0.road).some

lengths-ready : (open_off : ℕ) (stay : Stay) (b : Bool) → ltb 0 open_off ≡ b → has_lengths b stay ≡ true → 0 < open_off → stay.ready ≡ 0
lengths-ready open_off stay true e h l = eqb-true stay.ready 0 (both _ _ h).0
lengths-ready open_off stay false e h l = absurd (grind (arith, nat_tests))

lengths-run : (open_off : ℕ) (stay : Stay) (kind : Kind) (b : Bool) → stay.kind ≡ kind → ltb 0 open_off ≡ b → has_lengths b stay ≡ true → is_rest kind ≡ true →
    0 < open_off + stay.off
lengths-run open_off stay kind true k e h r = let some : 0 < open_off = grind (arith, nat_tests) in omega arith
lengths-run open_off stay Plain false k e h r = cc
lengths-run open_off stay Daily false k e h r =
    let well : is_length Daily stay.off ≡ true = rw k at h in omega (arith, leb-true 1 stay.off well)
lengths-run open_off stay Weekly false k e h r =
    let well : is_length Weekly stay.off ≡ true = rw k at h in omega (arith, leb-true 1 stay.off well)

-- no Ready minute goes into the open run
pub waits-none : (open_off : ℕ) (step : Step) (before : PartialDuty) → has_lawful_length open_off step before ≡ true → 0 < open_at open_off before → step.stay.ready ≡ 0
waits-none open_off step [] h l = lengths-ready open_off step.stay (ltb 0 open_off) refl h l
waits-none open_off step (s ∷ before) h l = absurd (omega arith)

-- a rest has an off run
pub rests-some : (open_off : ℕ) (step : Step) (before : PartialDuty) → has_lawful_length open_off step before ≡ true → is_rest step.stay.kind ≡ true →
    0 < open_at open_off before + step.stay.off
rests-some open_off step [] h r = lengths-run open_off step.stay step.stay.kind (ltb 0 open_off) refl refl h r
rests-some open_off step (s ∷ before) h r = lengths-run 0 step.stay step.stay.kind false refl refl h r

-- the clock of a partial duty that keeps the office rules stands for a line
pub is-clock : (week : Week) (h : History) (open_off capacity : ℕ) (partial : PartialDuty) (clock : Clock) → KeepsOfficeThrough week open_off capacity partial →
    Stands clock (past_of h) (line_after week partial) → IsClock clock
is-clock week h open_off capacity partial clock k s = record {
  past = past_of h;
  week = line_after week partial;
  stands = s;
  past_minutes = length-past_of h (is_history h);
  week_minutes = early week open_off capacity partial k;
  prev_drive = h.drive;
  work_before = (is_history h).work16;
  debt = carried h;
}
