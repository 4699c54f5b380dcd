-- Judging after the history that rows say is judging after the rows' own minutes.
use Rattle.std.proofs.Common.{◌≡◌, ℕ, zero, suc, ◌+◌, ◌-◌, ◌*◌, ◌/◌, ◌≤◌, ◌<◌, ◌≤ℤ◌, false, nat_eq, unsigned_abs, inl, inr, ◌⊎◌, List, [], map, fold, refl, arith, subst, ◌∙◌, ap, Option, Some, None, Ok, Err, sum, pos, negsuc, ℤ, ◌-ℤ◌, slice_get}
use Rattle.std.specs.Option.{option_map_or}
use Rattle.std.proofs.lemmas.Bool.{cases_lt}
use Rattle.std.proofs.lemmas.Int.{ints}
use Rattle.minute_line.specs.declared.marks.Kind.TheVariants.{Plain}
use Rattle.minute_line.specs.declared.lines.History.{History}
use Rattle.minute_line.specs.Minutes.{Minutes, nothing, reached_by}
use Rattle.minute_line.specs.Histories.{Fields, fields_of}
use Rattle.minute_line.specs.Debts.{owed_by, weeks_left}
use Rattle.week_book.specs.declared.rows.Row.{Row}
use Rattle.week_book.specs.Pasts.{Activity, Rested, PastWorkingTime, past_activities, rests_of, past_working_times_of, HasPastRows}
use Rattle.hours_rules.specs.declared.clocks.Clock.{Clock}
use Rattle.hours_rules.specs.Debts.{Debt, third_week_end}
use Rattle.hours_rules.specs.Rules.{Past, fault}
use Rattle.hours_rules.specs.Standing.{Stands}
use Rattle.hours_rules.specs.Machine.{at_monday}
use Rattle.hours_rules.specs.Verdicts.{past_of}
use Rattle.hours_rules.proofs.Starts.{stands-monday}
use Rattle.driver_history.specs.declared.errors.HistoryError.{HistoryError}
use Rattle.driver_history.specs.Carrying.{no_line, carry}
use Rattle.driver_history.specs.Finding.{ArePast, IsRestInRange}
use Rattle.driver_history.specs.Reading.{stint_said, past_fault, history_by, history_said, some_history, past_said}
use Rattle.driver_history.specs.Laws.{rows_past}
use Rattle.driver_history.proofs.Watching.{watch, declared_by, stands-watch}
use Rattle.driver_history.proofs.Rows.{are_past, is_rest}
use Rattle.driver_history.proofs.RowShapes.{lasts-read, cuts-late}
use Rattle.driver_history.proofs.RowBounds.{reads}
use Rattle.driver_history.proofs.Weeks.{first_clock, first-stands, past_clock, monday_clock, monday-stands}
use Rattle.driver_history.proofs.Beginnings.{begun-uncut, no_weekly-rows}
use Rattle.driver_history.proofs.KeptDebts.{IsKeptDebt, keeps-watch_debt}
use Rattle.driver_history.proofs.Closing.{Follows}
use Rattle.driver_history.proofs.Following.{follows-fold, rests-uncut}
use Rattle.driver_history.proofs.Ending.{follows-first, monday-keeps, moved_on}
use Rattle.driver_history.proofs.Stating.{States, near-stated}
use Rattle.driver_history.proofs.Nearby.{same-fault}

-- the history's debt is the rest's own, but for one that was due before Monday
weeks-end : (ago : ℕ) → (pos ((4 - (ago / 10080 + 1)) * 10080) ≡ third_week_end (negsuc ago))
    ⊎ ((pos ((4 - (ago / 10080 + 1)) * 10080) ≤ℤ pos 0) × (third_week_end (negsuc ago) ≤ℤ pos 0))
weeks-end ago = by_weeks (cases_lt (ago / 10080) 4)
  where
    by_weeks : (ago / 10080 < 4) ⊎ (4 ≤ ago / 10080) → (pos ((4 - (ago / 10080 + 1)) * 10080) ≡ third_week_end (negsuc ago))
        ⊎ ((pos ((4 - (ago / 10080 + 1)) * 10080) ≤ℤ pos 0) × (third_week_end (negsuc ago) ≤ℤ pos 0))
    by_weeks (inl l) = inl (omega (arith, ints))
    by_weeks (inr l) = inr (omega (arith, ints), omega (arith, ints))

last_minute : (end : ℤ) → end ≤ℤ pos 0 → (end -ℤ pos 1) ≡ negsuc (unsigned_abs end)
last_minute (pos zero) h = refl
last_minute (pos (suc n)) h = absurd (omega (arith, ints))
last_minute (negsuc n) h = omega (arith, ints)

rest-due : (rested : Rested) → IsRestInRange rested → (pos (weeks_left (unsigned_abs rested.end) * 10080) ≡ third_week_end (rested.end -ℤ pos 1))
    ⊎ ((pos (weeks_left (unsigned_abs rested.end) * 10080) ≤ℤ pos 0) × (third_week_end (rested.end -ℤ pos 1) ≤ℤ pos 0))
rest-due rested i = rw (last_minute rested.end i.end) (weeks-end (unsigned_abs rested.end))

-- the clock of the rows' minutes, from the end of the rest on
abbrev rows_clock : Rested → PastWorkingTime → List Activity → Clock
rows_clock rested past_work ss =
    watch (first_clock rested.minutes past_work.last (sum past_work.weeks) (rows_past rested past_work ss).debt) Plain (map stint_said ss)

rows-stands : (rested : Rested) (past_work : PastWorkingTime) (ss : List Activity) → ArePast ss → past_fault rested ss ≡ None →
    Stands (at_monday (rows_clock rested past_work ss)) (rows_past rested past_work ss) []
rows-stands rested past_work ss p f =
    let first : Past = record (rows_past rested past_work ss) { minutes = [] } in
    stands-monday (rows_clock rested past_work ss) first (reached_by (map stint_said ss)).minutes refl
    (no_weekly-rows (map stint_said ss) (cuts-late ss (reads rested ss f).late))
    (stands-watch (map stint_said ss) (first_clock rested.minutes past_work.last (sum past_work.weeks) first.debt) first nothing Plain refl (lasts-read ss p.lasts)
    (first-stands rested.minutes past_work.last (sum past_work.weeks) first.debt))

rows-follow : (rested : Rested) (past_work : PastWorkingTime) (ss : List Activity) → ArePast ss → past_fault rested ss ≡ None →
    Follows (fold carry (no_line rested.minutes) (map stint_said ss)) (owed_by rested.minutes) (rows_clock rested past_work ss) (declared_by Plain (map stint_said ss))
rows-follow rested past_work ss p f =
    let debt = (rows_past rested past_work ss).debt in
    let cuts = cuts-late ss (reads rested ss f).late in
    let clock = first_clock rested.minutes past_work.last (sum past_work.weeks) debt in
    subst (λ (b : Debt). Follows (fold carry (no_line rested.minutes) (map stint_said ss)) b.owed (rows_clock rested past_work ss) (declared_by Plain (map stint_said ss)))
    (begun-uncut (map stint_said ss) debt clock Plain false (λ e. e) cuts)
    (follows-fold (map stint_said ss) (no_line rested.minutes) debt clock Plain (lasts-read ss p.lasts)
    (rests-uncut (map stint_said ss) (no_line rested.minutes) false (λ e. e) cuts) (follows-first rested.minutes past_work.last (sum past_work.weeks) debt))

rows-keep : (rested : Rested) (past_work : PastWorkingTime) (ss : List Activity) → past_fault rested ss ≡ None →
    IsKeptDebt (rows_past rested past_work ss).debt (rows_clock rested past_work ss).owed (rows_clock rested past_work ss).due
rows-keep rested past_work ss f =
    let debt = (rows_past rested past_work ss).debt in
    let clock = first_clock rested.minutes past_work.last (sum past_work.weeks) debt in
    subst (λ (b : Debt). IsKeptDebt b (rows_clock rested past_work ss).owed (rows_clock rested past_work ss).due)
    (begun-uncut (map stint_said ss) debt clock Plain false (λ e. e) (cuts-late ss (reads rested ss f).late))
    (keeps-watch_debt (map stint_said ss) debt clock Plain (record { owed_is = λ l. refl; due_is = λ l. refl }))

rows-state : (h : History) (rested : Rested) (past_work : PastWorkingTime) (ss : List Activity) → fields_of h ≡ history_by rested past_work ss →
    States h (fold carry (no_line rested.minutes) (map stint_said ss)) (owed_by rested.minutes) past_work.last (sum past_work.weeks)
rows-state h rested past_work ss e = record {
  prev = ap (λ (f : Fields). f.prev_weekly) e;
  stints = ap (λ (f : Fields). f.stints) e;
  open_run = ap (λ (f : Fields). f.open_off) e;
  drive = ap (λ (f : Fields). f.prev_drive) e;
  work = ap (λ (f : Fields). sum f.work16) e;
  owed = ap (λ (f : Fields). f.owed) e;
}

rows-dues : (h : History) (rested : Rested) (past_work : PastWorkingTime) (ss : List Activity) → IsRestInRange rested → past_fault rested ss ≡ None →
    fields_of h ≡ history_by rested past_work ss → 0 < (past_clock h).owed → 0 < (rows_clock rested past_work ss).owed →
    ((past_clock h).due ≡ (rows_clock rested past_work ss).due) ⊎ (((past_clock h).due ≤ℤ pos 0) × ((rows_clock rested past_work ss).due ≤ℤ pos 0))
rows-dues h rested past_work ss i f e some now =
    let kept = rows-keep rested past_work ss f in
    let owed = kept.owed_is now in
    let stands : nat_eq (owed_by rested.minutes) 0 ≡ false = some_owed (owed_by rested.minutes) (omega arith) in
    let due : h.due ≡ weeks_left (unsigned_abs rested.end) = ap (λ (x : Fields). x.due) e ∙ rw stands refl in
    let mine : (past_clock h).due ≡ pos (weeks_left (unsigned_abs rested.end) * 10080) = (monday-keeps h).due_is some ∙ ap (λ (n : ℕ). pos (n * 10080)) due in
    rw (mine, kept.due_is now) (rest-due rested i)
  where
    some_owed : (n : ℕ) → 0 < n → nat_eq n 0 ≡ false
    some_owed n h = grind arith

after-rows : (h : History) (rested : Rested) (past_work : PastWorkingTime) (ss : List Activity) → IsRestInRange rested → ArePast ss → past_fault rested ss ≡ None →
    fields_of h ≡ history_by rested past_work ss → (week : Minutes) → fault (past_of h) week ≡ fault (rows_past rested past_work ss) week
after-rows h rested past_work ss i p f e week =
    let k = rows_clock rested past_work ss in
    let later : Debt = record { owed = k.owed; due = k.due } in
    same-fault (past_of h) (rows_past rested past_work ss) week (record {
      first = monday_clock h;
      second = moved_on k past_work.last (sum past_work.weeks) later;
      first_stands = monday-stands h;
      second_stands = moved-rows (rows-stands rested past_work ss p f);
      near = near-stated h (fold carry (no_line rested.minutes) (map stint_said ss)) (owed_by rested.minutes) k (declared_by Plain (map stint_said ss)) past_work.last
          (sum past_work.weeks) later (rows-state h rested past_work ss e) (rows-follow rested past_work ss p f) refl (rows-dues h rested past_work ss i f e);
    })
  where
    moved-rows : Stands (at_monday (rows_clock rested past_work ss)) (rows_past rested past_work ss) [] →
        Stands (moved_on (rows_clock rested past_work ss) past_work.last (sum past_work.weeks)
        (record { owed = (rows_clock rested past_work ss).owed; due = (rows_clock rested past_work ss).due })) (rows_past rested past_work ss) []
    moved-rows s = record {
      at = s.at;
      off = s.off;
      day_from = s.day_from;
      rest_from = s.rest_from;
      period = s.period;
      half = s.half;
      drive_day = s.drive_day;
      long_days = s.long_days;
      split = s.split;
      reduced = s.reduced;
      prev_weekly = s.prev_weekly;
      work_run = s.work_run;
      work_day = s.work_day;
      pause_day = s.pause_day;
      drive_week = s.drive_week;
      work_week = s.work_week;
      prev_drive = refl;
      work_before = refl;
      owed = s.owed;
      due = s.due;
    }

-- the rows of a history have no fault, and it is the one that they make
some_fields : (o : Option HistoryError) (f g : Fields) → some_history (option_map_or Err o (Ok f)) ≡ Ok (Some g) → (o ≡ None) × (g ≡ f)
some_fields None f g e = (refl, cc)
some_fields (Some x) f g e = cc

pub rows-last : (rows : List Row) (name : List ℕ) (h : History) (rested : Rested) (past_work : PastWorkingTime) → HasPastRows rows →
    past_said name rows ≡ Ok (Some (fields_of h)) → slice_get (rests_of name rows) 0 ≡ Some rested →
    slice_get (past_working_times_of name rows) 0 ≡ Some past_work → (week : Minutes) →
    fault (past_of h) week ≡ fault (rows_past rested past_work (past_activities name rows)) week
rows-last rows name h rested past_work p e r w week =
    let said : some_history (history_said rested past_work (past_activities name rows)) ≡ Ok (Some (fields_of h)) = rw (r, w) at e in
    let both = some_fields (past_fault rested (past_activities name rows)) (history_by rested past_work (past_activities name rows)) (fields_of h) said in
    after-rows h rested past_work (past_activities name rows) (is_rest name rows rested p.ranges r) (are_past name rows p) both.0 both.1 week
