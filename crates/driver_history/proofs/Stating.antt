-- The clock of a history that states what is left of a line.
use Rattle.std.proofs.Common.{◌≡◌, ℕ, zero, suc, ◌≤◌, ◌<◌, ◌≤ℤ◌, ltb, inl, inr, ◌⊎◌, List, [], ◌∷◌, refl, arith, subst, ◌∙◌, ap, min, sum, pos, ◌-ℤ◌}
use Rattle.std.proofs.lemmas.Bool.{cases_Bool, cases_lt}
use Rattle.std.proofs.lemmas.Int.{ints}
use Rattle.minute_line.specs.declared.marks.Mark.{Mark}
use Rattle.minute_line.specs.declared.marks.Kind.{Kind}
use Rattle.minute_line.specs.declared.marks.Kind.TheVariants.{Plain}
use Rattle.minute_line.specs.declared.marks.Stint.{Stint}
use Rattle.minute_line.specs.declared.lines.History.{History}
use Rattle.minute_line.specs.Marks.{is_off}
use Rattle.minute_line.specs.Histories.{fields_of}
use Rattle.hours_rules.specs.declared.clocks.Clock.{Clock}
use Rattle.hours_rules.specs.Debts.{Debt}
use Rattle.hours_rules.specs.Machine.{at_monday, rested}
use Rattle.hours_rules.specs.Verdicts.{debt_from}
use Rattle.driver_history.specs.Carrying.{SinceWeeklyRestFields, all_stints}
use Rattle.driver_history.proofs.Watching.{after_block, declared_after, watch}
use Rattle.driver_history.proofs.Weeks.{first_clock, past_clock, monday_clock}
use Rattle.driver_history.proofs.LongRuns.{Held}
use Rattle.driver_history.proofs.Alike.{DueAlike, Alike}
use Rattle.driver_history.proofs.Shifting.{Shifted, shifted-trans, shifted-rested, shifted-watch, shifted-first}
use Rattle.driver_history.proofs.Closing.{closed_clock, Follows, owed_only}
use Rattle.driver_history.proofs.Ending.{monday-keeps, moved_on}

-- a clock keeps what it says of the weeks before
record Keeps (x y : Clock) : Type 0 where
  drive : x.prev_drive ≡ y.prev_drive
  work : x.work_before ≡ y.work_before

keeps-block : (k : Clock) (d : Kind) (m : Mark) (n : ℕ) → Keeps (after_block k d m n) k
keeps-block k d m n =
    elim (cases_Bool (is_off m)) [
      | inl t ↦ rw t (record { drive = refl; work = refl })
      | inr f ↦ rw f (record { drive = refl; work = refl })
    ]

keeps-watch : (ss : List Stint) (k : Clock) (d : Kind) → Keeps (watch k d ss) k
keeps-watch [] k d = record { drive = refl; work = refl }
keeps-watch (s ∷ ss) k d =
    let one = keeps-block k d s.mark s.minutes in
    let all = keeps-watch ss (after_block k d s.mark s.minutes) (declared_after s) in
    record { drive = all.drive ∙ one.drive; work = all.work ∙ one.work }

-- clocks that are one but for where the line began are alike on Monday
same-monday : (x y : Clock) (drive work : ℕ) (debt : Debt) → Shifted x y → x.prev_drive ≡ drive → x.work_before ≡ work → y.owed ≡ debt.owed →
    record (at_monday x) { prev_weekly = y.prev_weekly; due = debt.due } ≡ moved_on y drive work debt
same-monday x y drive work debt s d w o =
    let day : (x.day_from -ℤ pos x.at) ≡ (y.day_from -ℤ pos y.at) = let e = s.day in omega (arith, ints) in
    let since : (x.rest_from -ℤ pos x.at) ≡ (y.rest_from -ℤ pos y.at) = let e = s.since in omega (arith, ints) in
    let owed : x.owed ≡ debt.owed = s.counts.owed ∙ o in λ i. record {
      at = 0;
      off = s.off i;
      day_from = day i;
      rest_from = since i;
      period = s.counts.period i;
      half = s.counts.half i;
      drive_day = s.counts.drive_day i;
      long_days = 0;
      split = s.counts.split i;
      reduced = s.counts.reduced i;
      prev_weekly = y.prev_weekly;
      work_run = s.counts.work_run i;
      work_day = s.counts.work_day i;
      pause_day = s.counts.pause_day i;
      drive_week = 0;
      work_week = 0;
      prev_drive = d i;
      work_before = w i;
      owed = owed i;
      due = debt.due;
    }

-- a longer run than the one that is held
held-run : (p q k : Clock) (o drive work : ℕ) (debt : Debt) → Shifted p q → Shifted (rested q o) k → q.off ≡ 0 → 20160 ≤ o → p.prev_drive ≡ drive →
    p.work_before ≡ work → DueAlike (at_monday (rested p 20160)) (moved_on k drive work debt) → p.owed ≤ 1260 →
    Held (at_monday (rested p 20160)) (moved_on k drive work debt)
held-run p q k o drive work debt s t z l d w due few =
    let a = s.off in let b = t.off in let c = s.day in let e = t.day in record {
      at = refl;
      a_off = omega arith;
      b_off = omega arith;
      day = omega (arith, ints);
      drive_day = s.counts.drive_day ∙ t.counts.drive_day;
      long_days = refl;
      split = s.counts.split ∙ t.counts.split;
      reduced = s.counts.reduced ∙ t.counts.reduced;
      prev_weekly = s.counts.prev_weekly ∙ t.counts.prev_weekly;
      work_day = s.counts.work_day ∙ t.counts.work_day;
      drive_week = refl;
      work_week = refl;
      prev_drive = d;
      work_before = w;
      debt = due;
      few = few;
    }

-- a history states what is left of a line that began with so many minutes owed
pub record States (next : History) (c : SinceWeeklyRestFields) (begun driven worked : ℕ) : Type 0 where
  pub prev : next.prev_weekly ≡ c.prev_weekly
  pub stints : next.stints.stints ≡ all_stints c
  pub open_run : next.open_off ≡ min 20160 c.open_off
  pub drive : next.prev_drive ≡ driven
  pub work : sum next.work16 ≡ worked
  pub owed : next.owed ≡ begun

-- the clock of that history is the line's, moved to Monday, but for when a debt is due and how long a long run is
pub near-stated : (next : History) (c : SinceWeeklyRestFields) (w : ℕ) (k : Clock) (d : Kind) (drive work : ℕ) (later : Debt) → States next c w drive work →
    Follows c w k d → k.owed ≡ later.owed →
    (0 < (past_clock next).owed → 0 < k.owed → ((past_clock next).due ≡ later.due) ⊎ (((past_clock next).due ≤ℤ pos 0) × (later.due ≤ℤ pos 0))) →
    Alike (monday_clock next) (moved_on k drive work later) ⊎ Held (monday_clock next) (moved_on k drive work later)
near-stated next c w k d drive work later y f same soon = by_run (cases_lt 20160 c.open_off)
  where
    shift : Shifted (past_clock next) (closed_clock c w)
    shift = rw (y.prev, y.stints)
        (shifted-watch (all_stints c) (first_clock c.prev_weekly next.prev_drive (sum next.work16) (debt_from (fields_of next)))
        (first_clock c.prev_weekly 0 0 (owed_only w)) Plain
        (shifted-first c.prev_weekly next.prev_drive (sum next.work16) 0 0 (debt_from (fields_of next)) (owed_only w) y.owed))

    keeps : Keeps (past_clock next) (first_clock next.prev_weekly next.prev_drive (sum next.work16) (debt_from (fields_of next)))
    keeps = keeps-watch next.stints.stints (first_clock next.prev_weekly next.prev_drive (sum next.work16) (debt_from (fields_of next))) Plain

    owed : (past_clock next).owed ≡ k.owed
    owed = shift.counts.owed ∙ f.shift.counts.owed

    dues : 0 < (past_clock next).owed → ((past_clock next).due ≡ later.due) ⊎ (((past_clock next).due ≤ℤ pos 0) × (later.due ≤ℤ pos 0))
    dues some = soon some (subst (λ (n : ℕ). 0 < n) owed some)

    few : (past_clock next).owed ≤ 1260
    few = by_owed (past_clock next).owed refl
      where
        by_owed : (n : ℕ) → (past_clock next).owed ≡ n → (past_clock next).owed ≤ 1260
        by_owed zero e = omega arith
        by_owed (suc n) e = let is = (monday-keeps next).owed_is (omega arith) in let most = next.debt in omega arith

    by_run : (20160 < c.open_off) ⊎ (c.open_off ≤ 20160) →
        Alike (monday_clock next) (moved_on k drive work later) ⊎ Held (monday_clock next) (moved_on k drive work later)
    by_run (inl l) =
        let run : next.open_off ≡ 20160 = let o = y.open_run in omega arith in
        inr (rw run (held-run (past_clock next) (closed_clock c w) k c.open_off drive work later shift f.shift f.none (omega arith)
        (keeps.drive ∙ y.drive) (keeps.work ∙ y.work) (record { owed_same = owed ∙ same; due_same = dues }) few))
    by_run (inr l) =
        let run : next.open_off ≡ c.open_off = let o = y.open_run in omega arith in
        let all = shifted-trans _ _ _ (shifted-rested (past_clock next) (closed_clock c w) next.open_off c.open_off run shift) f.shift in
        inl (record {
          same = same-monday (rested (past_clock next) next.open_off) k drive work later all (keeps.drive ∙ y.drive) (keeps.work ∙ y.work) same;
          regular = ap (λ (n : ℕ). ltb n 2700) all.counts.prev_weekly;
          debt = record { owed_same = owed ∙ same; due_same = dues };
        })
