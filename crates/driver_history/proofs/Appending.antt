-- Judging after an advance is judging on the whole appended line.
use Rattle.std.proofs.Common.{◌≡◌, ℕ, zero, suc, ◌+◌, ◌-◌, ◌*◌, ◌≤◌, ◌<◌, ◌≤ℤ◌, false, nat_eq, inl, inr, ◌⊎◌, [], ◌∷◌, ◌++◌, length, length-append, refl, arith, sym, subst, ◌∙◌, ap, None, drop, sum, pos, ℤ, ◌-ℤ◌}
use Rattle.std.proofs.lemmas.Int.{ints}
use Rattle.minute_line.specs.declared.marks.Mark.TheVariants.{Off}
use Rattle.minute_line.specs.declared.marks.Kind.TheVariants.{Plain}
use Rattle.minute_line.specs.declared.lines.Line.{Line}
use Rattle.minute_line.specs.declared.lines.History.{History}
use Rattle.minute_line.specs.Marks.{is_drive, is_working}
use Rattle.minute_line.specs.Minutes.{Minutes, nothing, reached_by, total_of}
use Rattle.minute_line.specs.Histories.{Fields, fields_of}
use Rattle.hours_rules.specs.declared.clocks.Clock.{Clock}
use Rattle.hours_rules.specs.Counts.{count}
use Rattle.hours_rules.specs.Debts.{Debt}
use Rattle.hours_rules.specs.Rules.{fault, debt_of}
use Rattle.hours_rules.specs.Verdicts.{debt_from, past_of, week_minutes}
use Rattle.hours_rules.proofs.Faults.{length-stretch}
use Rattle.hours_rules.proofs.Stints.{length-stints}
use Rattle.driver_history.specs.Advancing.{left_of, advance_of}
use Rattle.driver_history.specs.Debts.{weeks_due}
use Rattle.driver_history.specs.Owing.{owed_left}
use Rattle.driver_history.specs.Laws.{appended_past}
use Rattle.driver_history.proofs.Weeks.{past_clock, monday_clock, monday-stands}
use Rattle.driver_history.proofs.Nearby.{same-fault}
use Rattle.driver_history.proofs.Shapes.{some_minutes}
use Rattle.driver_history.proofs.Beginnings.{left-begun, left-owed}
use Rattle.driver_history.proofs.Later.{along-week}
use Rattle.driver_history.proofs.Counting.{count-week}
use Rattle.driver_history.proofs.Stating.{States, near-stated}
use Rattle.driver_history.proofs.Ending.{end_clock, week_begun, follows-end, end-stands, monday-keeps, end-keeps, moved_on, moved-stands}

-- a debt a week later, counted from the next Monday: the same where it still stands, but for what is past
record MovesOn (k : Clock) (later : Debt) : Type 0 where
  owed : k.owed ≡ later.owed
  due : 0 < k.owed → later.due ≡ k.due -ℤ pos 10080

-- a debt is due at the end of a week
abbrev IsWeekly : Debt → Type 0
IsWeekly b = (weeks : ℕ) × (b.due ≡ pos (weeks * 10080))

due-later : (owed : ℕ) (b : Debt) (x y due : ℤ) (next weeks : ℕ) → 0 < owed → owed ≡ b.owed → due ≡ b.due → b.due ≡ pos (weeks * 10080) → next ≡ weeks_due b →
    x ≡ pos (next * 10080) → y ≡ due -ℤ pos 10080 → (x ≡ y) ⊎ ((x ≤ℤ pos 0) × (y ≤ℤ pos 0))
due-later owed b x y due next weeks some o d w n e f =
    let stands : nat_eq b.owed 0 ≡ false = some_minutes b.owed (omega arith) in
    let left : next ≡ weeks - 1 = n ∙ rw (stands, w) (omega arith) in by_weeks weeks left w
  where
    by_weeks : (j : ℕ) → next ≡ j - 1 → b.due ≡ pos (j * 10080) → (x ≡ y) ⊎ ((x ≤ℤ pos 0) × (y ≤ℤ pos 0))
    by_weeks zero l g = inr (omega (arith, ints), omega (arith, ints))
    by_weeks (suc j) l g = inl (omega (arith, ints))

-- the debt of the history after a week, and of the whole line, counted from the next Monday
dues-next : (h next : History) (line : Line) (later : Debt) → next.due ≡ weeks_due (week_begun h line) → IsWeekly (week_begun h line) →
    MovesOn (end_clock h line) later → 0 < (past_clock next).owed → 0 < (end_clock h line).owed →
    ((past_clock next).due ≡ later.due) ⊎ (((past_clock next).due ≤ℤ pos 0) × (later.due ≤ℤ pos 0))
dues-next h next line later y (weeks, weekly) m some now =
    let kept = end-keeps h line in
    due-later (end_clock h line).owed (week_begun h line) (past_clock next).due later.due (end_clock h line).due next.due weeks now (kept.owed_is now) (kept.due_is now)
    weekly y ((monday-keeps next).due_is some) (m.due now)

-- the debt where the line begins that is left of a week is due at the end of a week
week-due : (h : History) (line : Line) → IsWeekly (week_begun h line)
week-due h line = let o = owed_left (fields_of h) line.stints in (o.due, ap (λ (d : Debt). d.due) (sym (left-owed h line)))

length-week : (h : History) (line : Line) → total_of line.stints ≤ 10080 → length (appended_past h line).minutes ≡ length (past_of h).minutes + 10080
length-week h line t =
    let minutes = (reached_by line.stints).minutes in
    omega (arith, length-append (week_minutes line) (past_of h).minutes, length-stretch (10080 - length minutes) Off Plain minutes, length-stints line.stints nothing 0 refl)

-- the debt at the end of a week, counted from the next Monday
moves-on : (h : History) (line : Line) → total_of line.stints ≤ 10080 → MovesOn (end_clock h line) (debt_of (appended_past h line) [])
moves-on h line t =
    let s = end-stands h line in
    let m = along-week (debt_from (fields_of h)) (length (past_of h).minutes) (length (appended_past h line).minutes) (appended_past h line).minutes
    (length-week h line t) in record {
      owed = s.owed ∙ sym m.owed;
      due = λ some. m.due (subst (λ (n : ℕ). 0 < n) s.owed some) ∙ ap (λ (d : ℤ). d -ℤ pos 10080) (sym s.due);
    }

says : (h next : History) (line : Line) → fields_of next ≡ advance_of (fields_of h) line.stints →
    States next (left_of (fields_of h) line.stints) (week_begun h line).owed (count is_drive (week_minutes line)) (sum (drop 1 h.work16 ++ count is_working (week_minutes line) ∷ []))
says h next line e = record {
  prev = ap (λ (f : Fields). f.prev_weekly) e;
  stints = ap (λ (f : Fields). f.stints) e;
  open_run = ap (λ (f : Fields). f.open_off) e;
  drive = ap (λ (f : Fields). f.prev_drive) e ∙ sym (count-week is_drive line refl);
  work = ap (λ (f : Fields). sum f.work16) e ∙ ap (λ (n : ℕ). sum (drop 1 h.work16 ++ n ∷ [])) (sym (count-week is_working line refl));
  owed = ap (λ (f : Fields). f.owed) e ∙ ap (λ (d : Debt). d.owed) (left-begun h line);
}

pub advance-lasts : (h next : History) (line : Line) → total_of line.stints ≤ 10080 → fault (past_of h) (week_minutes line) ≡ None →
    fields_of next ≡ advance_of (fields_of h) line.stints → (week : Minutes) → fault (past_of next) week ≡ fault (appended_past h line) week
advance-lasts h next line t f e week =
    let drive : ℕ = count is_drive (week_minutes line) in
    let work : ℕ = sum (drop 1 h.work16 ++ count is_working (week_minutes line) ∷ []) in
    let later : Debt = debt_of (appended_past h line) [] in
    let moved = moves-on h line t in
    same-fault (past_of next) (appended_past h line) week (record {
      first = monday_clock next;
      second = moved_on (end_clock h line) drive work later;
      first_stands = monday-stands next;
      second_stands = moved-stands (end_clock h line) (past_of h) (week_minutes line) (appended_past h line) (end-stands h line) refl refl;
      near = near-stated next (left_of (fields_of h) line.stints) (week_begun h line).owed (end_clock h line) Plain drive work later (says h next line e)
          (follows-end h line t f) moved.owed
          (dues-next h next line later (ap (λ (x : Fields). x.due) e ∙ ap weeks_due (left-begun h line)) (week-due h line) moved);
    })
