-- The clock at the end of a week, and on the Monday after it.
use Rattle.std.proofs.Common.{◌≡◌, ℕ, ◌-◌, ◌≤◌, false, [], length, refl, fold, arith, sym, subst, ◌∙◌, None, sum}
use Rattle.std.proofs.lemmas.Int.{ints}
use Rattle.minute_line.specs.declared.marks.Kind.TheVariants.{Plain}
use Rattle.minute_line.specs.declared.lines.Line.{Line}
use Rattle.minute_line.specs.declared.lines.History.{History}
use Rattle.minute_line.specs.Minutes.{Minutes, add_stint, nothing, reached_by, total_of}
use Rattle.minute_line.specs.Histories.{fields_of}
use Rattle.hours_rules.specs.declared.clocks.Clock.{Clock}
use Rattle.hours_rules.specs.Debts.{Debt}
use Rattle.hours_rules.specs.Rules.{Past, fault, whole, debt_of}
use Rattle.hours_rules.specs.Standing.{Stands}
use Rattle.hours_rules.specs.Machine.{at_monday, rested}
use Rattle.hours_rules.specs.Verdicts.{debt_from, past_of, week_minutes}
use Rattle.hours_rules.proofs.Blocks.{stands-off_block}
use Rattle.hours_rules.proofs.Stints.{length-stints}
use Rattle.hours_rules.proofs.Faults.{fault-off}
use Rattle.driver_history.specs.Carrying.{no_line, carry}
use Rattle.driver_history.specs.Advancing.{left_of}
use Rattle.driver_history.proofs.Watching.{watch, declared_by, stands-watch}
use Rattle.driver_history.proofs.Pasts.{lasts-line, cuts-past}
use Rattle.driver_history.proofs.Bounds.{kept-off}
use Rattle.driver_history.proofs.Weeks.{first_clock, past_left, past_clock, past-lasts, monday_left, monday_clock, monday-stands, monday-tracks, kept-past, left-parts, held-monday}
use Rattle.driver_history.proofs.Shifting.{Shifted, shifted-trans, shifted-first, tally, same-tally}
use Rattle.driver_history.proofs.Closing.{Follows, owed_only}
use Rattle.driver_history.proofs.OwedClocks.{begun_by}
use Rattle.driver_history.proofs.Beginnings.{begun-past}
use Rattle.driver_history.proofs.KeptDebts.{IsKeptDebt, keeps-watch_debt}
use Rattle.driver_history.proofs.Following.{follows-fold, follows-off, rests-uncut, rests-lawful, RestsLong}

pub follows-first : (weekly drive work : ℕ) (debt : Debt) → Follows (no_line weekly) debt.owed (first_clock weekly drive work debt) Plain
follows-first weekly drive work debt = record {
  shift = shifted-first weekly 0 0 drive work (owed_only debt.owed) debt refl;
  kind = refl;
  none = refl;
}

shifted-monday : (k : Clock) → Shifted k (at_monday k)
shifted-monday k = record {
  off = refl;
  day = omega (arith, ints);
  since = omega (arith, ints);
  counts = same-tally (tally k);
}

follows-past : (h : History) → Follows (past_left h) h.owed (past_clock h) (declared_by Plain h.stints.stints)
follows-past h =
    subst (λ (b : Debt). Follows (past_left h) b.owed (past_clock h) (declared_by Plain h.stints.stints)) (begun-past h)
    (follows-fold h.stints.stints (no_line h.prev_weekly) (debt_from (fields_of h))
    (first_clock h.prev_weekly h.prev_drive (sum h.work16) (debt_from (fields_of h))) Plain (past-lasts h)
    (rests-uncut h.stints.stints (no_line h.prev_weekly) false (λ e. e) (cuts-past false h.stints.stints h.shape))
    (follows-first h.prev_weekly h.prev_drive (sum h.work16) (debt_from (fields_of h))))

follows-monday : (h : History) → Follows (monday_left h) h.owed (monday_clock h) Plain
follows-monday h =
    let f = follows-off (past_left h) h.owed (past_clock h) (declared_by Plain h.stints.stints) Plain h.open_off (follows-past h) in record {
      shift = shifted-trans _ _ _ f.shift (shifted-monday (rested (past_clock h) h.open_off));
      kind = f.kind;
      none = f.none;
    }

-- the clock at the end of the week
abbrev pub end_clock : History → Line → Clock
end_clock h line = rested (watch (monday_clock h) Plain line.stints) (10080 - total_of line.stints)

-- no fault before the end of a lawful week
none-line : (h : History) (line : Line) → fault (past_of h) (week_minutes line) ≡ None → fault (past_of h) (fold add_stint nothing line.stints).minutes ≡ None
none-line h line f = sym (fault-off 0 (past_of h) (10080 - length (reached_by line.stints).minutes) Plain (reached_by line.stints).minutes) ∙ f

-- each weekly rest that ends in a lawful week has its length
pub rests-week : (h : History) (line : Line) → total_of line.stints ≤ 10080 → fault (past_of h) (week_minutes line) ≡ None → RestsLong (monday_left h) line.stints
rests-week h line t f =
    rests-lawful (past_of h) line.stints (monday_left h) (monday_clock h) Plain nothing (lasts-line line.stints line.shape) refl (monday-stands h) (monday-tracks h)
    (kept-off (past_left h) h.open_off Plain (kept-past h)) (omega (arith, held-monday h)) (none-line h line f)

-- the debt where the line begins that is left of a history and a week
abbrev pub week_begun : History → Line → Debt
week_begun h line = begun_by (debt_from (fields_of h)) (monday_clock h) Plain line.stints

pub follows-end : (h : History) (line : Line) → total_of line.stints ≤ 10080 → fault (past_of h) (week_minutes line) ≡ None →
    Follows (left_of (fields_of h) line.stints) (week_begun h line).owed (end_clock h line) Plain
follows-end h line t f =
    rw (left-parts h line.stints)
    (follows-off (fold carry (monday_left h) line.stints) (week_begun h line).owed (watch (monday_clock h) Plain line.stints) (declared_by Plain line.stints) Plain
    (10080 - total_of line.stints)
    (follows-fold line.stints (monday_left h) (debt_from (fields_of h)) (monday_clock h) Plain (lasts-line line.stints line.shape) (rests-week h line t f) (follows-monday h)))

-- a debt that stands on Monday is the history's
pub monday-keeps : (h : History) → IsKeptDebt (debt_from (fields_of h)) (monday_clock h).owed (monday_clock h).due
monday-keeps h =
    subst (λ (b : Debt). IsKeptDebt b (past_clock h).owed (past_clock h).due) (begun-past h)
    (keeps-watch_debt h.stints.stints (debt_from (fields_of h)) (first_clock h.prev_weekly h.prev_drive (sum h.work16) (debt_from (fields_of h))) Plain
    (record { owed_is = λ l. refl; due_is = λ l. refl }))

-- one that stands at the week's end is that of where the line begins that is left
pub end-keeps : (h : History) (line : Line) → IsKeptDebt (week_begun h line) (end_clock h line).owed (end_clock h line).due
end-keeps h line = keeps-watch_debt line.stints (debt_from (fields_of h)) (monday_clock h) Plain (monday-keeps h)

pub end-stands : (h : History) (line : Line) → Stands (end_clock h line) (past_of h) (week_minutes line)
end-stands h line =
    let all : length (reached_by line.stints).minutes ≡ total_of line.stints = length-stints line.stints nothing 0 refl in
    rw all (stands-off_block (watch (monday_clock h) Plain line.stints) (past_of h) (10080 - total_of line.stints) Plain (reached_by line.stints).minutes
    (stands-watch line.stints (monday_clock h) (past_of h) nothing Plain refl (lasts-line line.stints line.shape) (monday-stands h)))

-- a clock at the next Monday
abbrev pub moved_on : Clock → ℕ → ℕ → Debt → Clock
moved_on k drive work debt = record (at_monday k) { prev_drive = drive; work_before = work; owed = debt.owed; due = debt.due }

pub moved-stands : (k : Clock) (past : Past) (week : Minutes) (next : Past) → Stands k past week → next.minutes ≡ whole past week →
    next.prev_weekly ≡ past.prev_weekly → Stands (moved_on k next.prev_drive next.work_before (debt_of next [])) next []
moved-stands k past week next s m p = record {
  at = refl;
  off = s.off ∙ rw m refl;
  day_from = let d = s.day_from in rw m (omega (arith, ints, d, s.at));
  rest_from = let d = s.rest_from in rw m (omega (arith, ints, d, s.at));
  period = s.period ∙ rw m refl;
  half = s.half ∙ rw m refl;
  drive_day = s.drive_day ∙ rw m refl;
  long_days = refl;
  split = s.split ∙ rw m refl;
  reduced = s.reduced ∙ rw m refl;
  prev_weekly = s.prev_weekly ∙ rw (m, p) refl;
  work_run = s.work_run ∙ rw m refl;
  work_day = s.work_day ∙ rw m refl;
  pause_day = s.pause_day ∙ rw m refl;
  drive_week = refl;
  work_week = refl;
  prev_drive = refl;
  work_before = refl;
  owed = refl;
  due = refl;
}
