-- The clock of a history, counted from the history's own start.
use Rattle.std.proofs.Common.{◌≡◌, ℕ, ◌+◌, ◌≤◌, List, [], length, refl, arith, take, fold, ap, sym, ◌∙◌, append-nil}
use Rattle.std.proofs.lemmas.Int.{ints}
use Rattle.std.proofs.lemmas.List.Sums.{sum_by-take-le}
use Rattle.minute_line.specs.declared.marks.Stint.{Stint}
use Rattle.minute_line.specs.Minutes.{Minutes, add_stint, total_of, nothing}
use Rattle.hours_rules.specs.declared.clocks.Clock.{Clock}
use Rattle.hours_rules.specs.Counts.{work_day_of, since_weekly}
use Rattle.hours_rules.specs.Rules.{Past, whole, debt_of}
use Rattle.hours_rules.specs.Standing.{Stands, IsCarried}
use Rattle.hours_rules.specs.Bounds.{IsWithin}
use Rattle.hours_rules.specs.Debts.{Debt, debt_along}
use Rattle.hours_rules.specs.Machine.{at_monday}
use Rattle.std.proofs.Common.{take-append-drop, drop, ◌-◌, Some, None}
use Rattle.std.proofs.lemmas.List.{take_all}
use Rattle.std.proofs.lemmas.List.Sums.{fold-append}
use Rattle.minute_line.specs.declared.lines.Line.{Line}
use Rattle.minute_line.specs.declared.lines.History.{History}
use Rattle.minute_line.specs.declared.marks.Mark.TheVariants.{Off}
use Rattle.minute_line.specs.declared.marks.Kind.TheVariants.{Plain}
use Rattle.minute_line.specs.Minutes.{reached_by}
use Rattle.hours_rules.specs.declared.rules.Broken.{Broken}
use Rattle.hours_rules.specs.Rules.{fault}
use Rattle.hours_rules.specs.Verdicts.{past_of, week_minutes}
use Rattle.hours_rules.proofs.Histories.{IsHistory}
use Rattle.hours_rules.proofs.Faults.{fault-off, length-stretch}
use Rattle.hours_rules.proofs.Stints.{length-stints, fault_stays-stints}
use Rattle.hours_rules.proofs.Sizes.{within-stands}
use Rattle.hours_rules.proofs.DebtSizes.{NoWeekly, debt-anywhere}

pub stands-monday : (c : Clock) (past : Past) (line : Minutes) → past.minutes ≡ [] → NoWeekly line →
    Stands c past line → Stands (at_monday c) (record past { minutes = line }) []
stands-monday c past line e none s =
    let whole_is : whole past line ≡ line = rw e (append-nil line) in
    let debt : debt_of past line ≡ debt_along past.debt (length line) line =
    rw whole_is (debt-anywhere past.debt (length past.minutes) (length line) line none) in record {
      at = refl;
      off = s.off ∙ rw whole_is refl;
      day_from = let d = s.day_from in let w : length (work_day_of (whole past line)) ≡ length (work_day_of line) = rw whole_is refl in omega (arith, ints, d, w, s.at);
      rest_from = let d = s.rest_from in let w : length (since_weekly (whole past line)) ≡ length (since_weekly line) = rw whole_is refl in omega (arith, ints, d, w, s.at);
      period = s.period ∙ rw whole_is refl;
      half = s.half ∙ rw whole_is refl;
      drive_day = s.drive_day ∙ rw whole_is refl;
      long_days = refl;
      split = s.split ∙ rw whole_is refl;
      reduced = s.reduced ∙ rw whole_is refl;
      prev_weekly = s.prev_weekly ∙ rw whole_is refl;
      work_run = s.work_run ∙ rw whole_is refl;
      work_day = s.work_day ∙ rw whole_is refl;
      pause_day = s.pause_day ∙ rw whole_is refl;
      drive_week = refl;
      work_week = refl;
      prev_drive = s.prev_drive;
      work_before = s.work_before;
      owed = s.owed ∙ ap (λ (d : Debt). d.owed) debt;
      due = s.due ∙ ap (λ (d : Debt). d.due) debt;
    }

pub length-read : (stints : List Stint) (i : ℕ) → length (fold add_stint nothing (take i stints)).minutes ≤ total_of stints
length-read stints i =
    omega (arith, length-stints (take i stints) nothing 0 refl, sum_by-take-le (λ (s : Stint). s.minutes) stints i)

pub within-read : (n m : ℕ) (c : Clock) (past : Past) (stints : List Stint) (i : ℕ) →
    Stands c past (fold add_stint nothing (take i stints)).minutes → total_of stints ≤ m → length past.minutes + m ≤ n →
    past.prev_drive ≤ 200000 → past.work_before ≤ 200000 → IsCarried past.debt → IsWithin n c
within-read n m c past stints i s t l p w d =
    within-stands n c past _ s (omega (arith, length-read stints i)) p w d

pub length-past_of : (h : History) → IsHistory h → length (past_of h).minutes ≤ 40320
length-past_of h w =
    omega (
      arith,
      length-stretch h.open_off Off Plain (reached_by h.stints.stints).minutes,
      length-stints h.stints.stints nothing 0 refl,
      w.stints,
      w.open_off,
    )

-- a fault that was found after some of the stints is the week's
pub fault-found_early : (past : Past) (line : Line) (b : Broken) (stints : List Stint) (i : ℕ) → stints ≡ line.stints →
    fault past (fold add_stint nothing (take i stints)).minutes ≡ Some b → fault past (week_minutes line) ≡ Some b
fault-found_early past line b stints i e h =
    let whole_line : fold add_stint nothing line.stints ≡ fold add_stint (fold add_stint nothing (take i stints)) (drop i stints) =
    ap (fold add_stint nothing) (sym e ∙ sym (take-append-drop i stints)) ∙ fold-append add_stint nothing (take i stints) (drop i stints) in
    fault-off 0 past (10080 - length (reached_by line.stints).minutes) Plain (reached_by line.stints).minutes ∙ rw whole_line (fault_stays-stints 0 past b (drop i stints) _ h)

-- no fault after all stints
pub fault-none : (past : Past) (line : Line) (stints : List Stint) (i : ℕ) → stints ≡ line.stints → length stints ≤ i →
    fault past (fold add_stint nothing (take i stints)).minutes ≡ None → fault past (week_minutes line) ≡ None
fault-none past line stints i e l h =
    let all : take i stints ≡ line.stints = take_all i stints l ∙ e in
    fault-off 0 past (10080 - length (reached_by line.stints).minutes) Plain (reached_by line.stints).minutes ∙ rw all at h
