-- The line of a history and a week, carried on: its clock, and its bounds.
use Rattle.std.proofs.Common.{◌≡◌, ℕ, ◌-◌, ◌≤◌, List, [], ◌∷◌, ◌++◌, refl, fold, arith, length, None, pos, sym, ◌∙◌, sum, true, false}
use Rattle.std.proofs.lemmas.Int.{ints}
use Rattle.std.proofs.lemmas.List.Sums.{fold-append}
use Rattle.minute_line.specs.declared.marks.Mark.TheVariants.{Off}
use Rattle.minute_line.specs.declared.marks.Kind.{Kind}
use Rattle.minute_line.specs.declared.marks.Kind.TheVariants.{Plain}
use Rattle.minute_line.specs.declared.marks.Stint.{Stint}
use Rattle.minute_line.specs.declared.lines.Line.{Line}
use Rattle.minute_line.specs.declared.lines.History.{History}
use Rattle.minute_line.specs.Histories.{fields_of}
use Rattle.minute_line.specs.Minutes.{nothing, reached_by, stretch, total_of, add_stint}
use Rattle.hours_rules.specs.declared.clocks.Clock.{Clock}
use Rattle.hours_rules.specs.Rules.{Past, fault}
use Rattle.hours_rules.specs.Standing.{Stands}
use Rattle.hours_rules.specs.Machine.{at_monday, rested}
use Rattle.hours_rules.specs.Stints.{before_history}
use Rattle.hours_rules.specs.Debts.{Debt}
use Rattle.hours_rules.specs.Verdicts.{debt_from, past_of, week_minutes}
use Rattle.hours_rules.proofs.Blocks.{stands-off_block}
use Rattle.hours_rules.proofs.Starts.{stands-monday}
use Rattle.hours_rules.proofs.DebtSizes.{no_weekly-history}
use Rattle.hours_rules.proofs.Faults.{fault-off}
use Rattle.driver_history.specs.Carrying.{SinceWeeklyRestFields, no_line, rest, carry, add_off}
use Rattle.driver_history.specs.Advancing.{left_of}
use Rattle.driver_history.specs.Keeping.{KeepsHistoryBounds, held}
use Rattle.driver_history.proofs.Carry.{all_total, fold_small}
use Rattle.driver_history.proofs.Watching.{Tracks, tracks-fold, tracks-off, watch, stands-watch, declared_by, each_lasts}
use Rattle.driver_history.proofs.Bounds.{kept-off, kept-fold}
use Rattle.driver_history.proofs.Pasts.{uncut-fold, past-fold, lasts-line, lasts-past, cuts-past}

-- the clock before the first minute after a weekly rest, where this debt stands
abbrev pub first_clock : ℕ → ℕ → ℕ → Debt → Clock
first_clock weekly drive work debt = record {
  at = 0;
  off = 0;
  day_from = pos 0;
  rest_from = pos 0;
  period = 0;
  half = false;
  drive_day = 0;
  long_days = 0;
  split = false;
  reduced = 0;
  prev_weekly = weekly;
  work_run = 0;
  work_day = 0;
  pause_day = 0;
  drive_week = 0;
  work_week = 0;
  prev_drive = drive;
  work_before = work;
  owed = debt.owed;
  due = debt.due;
}

pub first-stands : (weekly drive work : ℕ) (debt : Debt) →
    Stands (first_clock weekly drive work debt) (record { minutes = []; prev_weekly = weekly; prev_drive = drive; work_before = work; debt = debt }) []
first-stands weekly drive work debt = record {
  at = refl;
  off = refl;
  day_from = refl;
  rest_from = refl;
  period = refl;
  half = refl;
  drive_day = refl;
  long_days = refl;
  split = refl;
  reduced = refl;
  prev_weekly = refl;
  work_run = refl;
  work_day = refl;
  pause_day = refl;
  drive_week = refl;
  work_week = refl;
  prev_drive = refl;
  work_before = refl;
  owed = refl;
  due = refl;
}

first-tracks : (weekly drive work : ℕ) (debt : Debt) → Tracks (no_line weekly) (first_clock weekly drive work debt) Plain
first-tracks weekly drive work debt = record { off = refl; kind = refl; since = refl; prev = refl }

-- what the history's stints leave
abbrev pub past_left : History → SinceWeeklyRestFields
past_left h = fold carry (no_line h.prev_weekly) h.stints.stints

-- the clock of the history's stints
abbrev pub past_clock : History → Clock
past_clock h = watch (first_clock h.prev_weekly h.prev_drive (sum h.work16) (debt_from (fields_of h))) Plain h.stints.stints

pub past-lasts : (h : History) → each_lasts h.stints.stints ≡ true
past-lasts h = lasts-past false h.stints.stints h.shape

pub past-stands : (h : History) → Stands (past_clock h) (before_history h) (reached_by h.stints.stints).minutes
past-stands h = stands-watch h.stints.stints (first_clock h.prev_weekly h.prev_drive (sum h.work16) (debt_from (fields_of h))) (before_history h) nothing Plain refl (past-lasts h)
    (first-stands h.prev_weekly h.prev_drive (sum h.work16) (debt_from (fields_of h)))

-- the clock of a history on Monday
abbrev pub monday_clock : History → Clock
monday_clock h = at_monday (rested (past_clock h) h.open_off)

pub monday-stands : (h : History) → Stands (monday_clock h) (past_of h) []
monday-stands h =
    stands-monday (rested (past_clock h) h.open_off) (before_history h) (stretch h.open_off Off Plain (reached_by h.stints.stints).minutes) refl (no_weekly-history h)
    (stands-off_block (past_clock h) (before_history h) h.open_off Plain (reached_by h.stints.stints).minutes (past-stands h))

-- what is left on Monday
abbrev pub monday_left : History → SinceWeeklyRestFields
monday_left h = add_off (past_left h) h.open_off Plain

tracks-monday : (c : SinceWeeklyRestFields) (k : Clock) (d : Kind) → Tracks c k d → Tracks c (at_monday k) d
tracks-monday c k d t = record {
  off = t.off;
  kind = t.kind;
  since = let s = t.since in omega (arith, ints);
  prev = t.prev;
}

pub monday-tracks : (h : History) → Tracks (monday_left h) (monday_clock h) Plain
monday-tracks h =
    tracks-monday (monday_left h) (rested (past_clock h) h.open_off) Plain
    (tracks-off (past_left h) (past_clock h) (declared_by Plain h.stints.stints) Plain h.open_off
    (tracks-fold h.stints.stints (no_line h.prev_weekly) (first_clock h.prev_weekly h.prev_drive (sum h.work16) (debt_from (fields_of h))) Plain
    (first-tracks h.prev_weekly h.prev_drive (sum h.work16) (debt_from (fields_of h)))))

pub kept-past : (h : History) → KeepsHistoryBounds (past_left h)
kept-past h =
    let u = uncut-fold h.stints.stints (no_line h.prev_weekly) false (λ e. e) (cuts-past false h.stints.stints h.shape) in
    let prev = u.prev in let whole = u.whole in record {
      rest = rw prev h.rest.0;
      short = rw prev h.rest.1;
      shape = past-fold h.stints.stints (no_line h.prev_weekly) (past-lasts h) refl;
      total = let t = h.total in omega (arith, all_total (past_left h));
    }

pub left-parts : (h : History) (line : List Stint) →
    left_of (fields_of h) line ≡ add_off (fold carry (monday_left h) line) (10080 - total_of line) Plain
left-parts h line =
    fold-append carry (no_line h.prev_weekly) h.stints.stints (rest h.open_off Plain ∷ (line ++ rest (10080 - total_of line) Plain ∷ []))
    ∙ fold-append carry (monday_left h) line (rest (10080 - total_of line) Plain ∷ [])

pub held-monday : (h : History) → held (monday_left h) ≤ 40320
held-monday h = let t = h.total in let r = h.run in omega (arith, fold_small h.stints.stints (no_line h.prev_weekly))

-- what is left of a lawful week's line is what a history may hold
pub kept-week : (h : History) (line : Line) → total_of line.stints ≤ 10080 → fault (past_of h) (week_minutes line) ≡ None → KeepsHistoryBounds (left_of (fields_of h) line.stints)
kept-week h line t f =
    let none : fault (past_of h) (fold add_stint nothing line.stints).minutes ≡ None =
    sym (fault-off 0 (past_of h) (10080 - length (reached_by line.stints).minutes) Plain (reached_by line.stints).minutes) ∙ f in
    rw (left-parts h line.stints)
    (kept-off (fold carry (monday_left h) line.stints) (10080 - total_of line.stints) Plain
    (kept-fold (past_of h) line.stints (monday_left h) (monday_clock h) Plain nothing (lasts-line line.stints line.shape) refl (monday-stands h) (monday-tracks h)
    (kept-off (past_left h) h.open_off Plain (kept-past h)) (omega (arith, held-monday h)) none))

-- a week in which nothing is done breaks no rule
pub lawful-idle : (past : Past) (line : Line) → line.stints ≡ [] → fault past (week_minutes line) ≡ None
lawful-idle past line e =
    fault-off 0 past (10080 - length (reached_by line.stints).minutes) Plain (reached_by line.stints).minutes ∙ rw e refl
