-- The line of a lawful duty, as the week of a history.
use Rattle.std.proofs.Common.{◌≡◌, ◌∙◌, ℕ, zero, suc, ◌-◌, ◌<◌, ap, sym, refl, arith, List, [], ◌∷◌, ◌++◌, length, get_or, Option, Some, None, IfSome, Result, Ok, Err, IfOk}
use Rattle.minute_line.specs.declared.many.Memory.{Memory}
use Rattle.minute_line.specs.Histories.{fields_of}
use Rattle.driver_history.specs.Advancing.{advance_of}
use Rattle.std.specs.Prelude.{slice_get}
use Rattle.minute_line.specs.declared.marks.Kind.{Kind}
use Rattle.minute_line.specs.declared.marks.Kind.TheVariants.{Plain, Daily, Weekly}
use Rattle.minute_line.specs.declared.marks.Mark.TheVariants.{Off}
use Rattle.minute_line.specs.declared.marks.Stint.{Stint}
use Rattle.minute_line.specs.declared.lines.History.{History}
use Rattle.minute_line.specs.Minutes.{total_of, stretch, reached_by}
use Rattle.hours_rules.specs.Rules.{fault}
use Rattle.hours_rules.specs.Verdicts.{past_of, week_from}
use Rattle.week_book.specs.declared.weeks.Week.{Week}
use Rattle.duty_plan.specs.declared.duties.Duty.{Duty}
use Rattle.duty_plan.specs.declared.plans.Case.{Case}
use Rattle.duty_plan.specs.PartialDuties.{PartialDuty, at_after, line_after, place_after}
use Rattle.duty_plan.specs.Duties.{IsLawful, past_at, past_or_none, partial_of}
use Rattle.duty_plan.specs.Laws.{HasItsMinutes, IsRestFree}
use Rattle.duty_plan.specs.Acts.{mark_of, minutes_of}
use Rattle.duty_plan.specs.Stints.{ready_stints, off_stints, stay_stints, stints_of}
use Rattle.duty_plan.proofs.WeekLimits.{at-step}
use Rattle.driver_history.proofs.Carry.{total-append}

ready-total : (n : ℕ) → total_of (ready_stints n) ≡ n
ready-total zero = refl
ready-total (suc n) = omega arith

off-total : (n : ℕ) (kind : Kind) → total_of (off_stints n kind) ≡ n
off-total zero Plain = refl
off-total zero Daily = refl
off-total zero Weekly = refl
off-total (suc n) Plain = omega arith
off-total (suc n) Daily = omega arith
off-total (suc n) Weekly = omega arith

-- the stints of a partial duty have the minutes up to its end
pub stints-total : (week : Week) (partial : PartialDuty) → total_of (stints_of week partial) ≡ at_after week partial
stints-total week [] = refl
stints-total week (step ∷ before) =
    let act : Stint = record { mark = mark_of step.act; minutes = minutes_of week (place_after before) step.act; kind = Plain } in
    omega (
      arith,
      stints-total week before,
      total-append (stints_of week before) (stay_stints step.stay ++ act ∷ []),
      total-append (stay_stints step.stay) (act ∷ []),
      total-append (ready_stints step.stay.ready) (off_stints step.stay.off step.stay.kind),
      ready-total step.stay.ready,
      off-total step.stay.off step.stay.kind,
      at-step week step before,
    )

pub element : {X : Type 0} (xs : List X) (i : ℕ) (x d : X) → i < length xs → x ≡ get_or xs i d → slice_get xs i ≡ Some x
element [] i x d l e = absurd (omega arith)
element (y ∷ ys) zero x d l e = ap Some (sym e)
element (y ∷ ys) (suc i) x d l e = element ys i x d (omega arith) e

-- the week of a lawful duty breaks no rule after the driver's history
pub obeys : HasItsMinutes → IsRestFree → (case : Case) (driver : ℕ) (duty : Duty) (history : History) (stints : List Stint) → IsLawful case driver duty
    → slice_get case.past driver ≡ Some history → stints ≡ stints_of case.week (partial_of duty) → fault (past_of history) (week_from stints) ≡ None
obeys minutes free case driver duty history stints lawful there are =
    let past : past_at case driver ≡ past_of history = ap past_or_none there in
    let line : (reached_by stints).minutes ≡ line_after case.week (partial_of duty) = ap (λ s. (reached_by s).minutes) are ∙ minutes case.week (partial_of duty) in
    ap (λ m. fault (past_of history) (stretch (10080 - length m) Off Plain m)) line
    ∙ (free (past_of history) case.week (partial_of duty) (10080 - length (line_after case.week (partial_of duty)))
    ∙ (ap (λ p. fault p (line_after case.week (partial_of duty))) (sym past) ∙ lawful.partial.hours))

-- what is said of a history is said of the one at its place
pub said-there : (next : Result History Memory) (o : Option History) (history : History) (stints stints' : List Stint) → o ≡ Some history → stints ≡ stints'
    → IfOk next (λ n. fields_of n ≡ advance_of (fields_of history) stints) → IfOk next (λ n. IfSome o (λ past. fields_of n ≡ advance_of (fields_of past) stints'))
said-there (Ok n) o history stints stints' there are h = rw there (h ∙ ap (advance_of (fields_of history)) are)
said-there (Err e) o history stints stints' there are h = h
