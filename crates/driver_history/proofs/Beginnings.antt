-- The debt where what is left of a line begins, along the line's clock.
use Rattle.std.proofs.Common.{◌≡◌, ℕ, zero, suc, ◌-◌, ◌≤◌, Bool, true, false, not, ◌&&◌, ◌||◌, cond, List, [], ◌∷◌, ◌++◌, replicate, length, fold, refl, arith, sym, ap, ◌∙◌, append_assoc, sum}
use Rattle.minute_line.specs.declared.marks.Mark.{Mark}
use Rattle.minute_line.specs.declared.marks.Mark.TheVariants.{Drive, Work, Ready, Off}
use Rattle.minute_line.specs.declared.marks.Kind.{Kind}
use Rattle.minute_line.specs.declared.marks.Kind.TheVariants.{Plain}
use Rattle.minute_line.specs.declared.marks.Stint.{Stint}
use Rattle.minute_line.specs.declared.lines.Line.{Line}
use Rattle.minute_line.specs.declared.lines.History.{History}
use Rattle.minute_line.specs.declared.lines.TheConstants.{WEEK_MINUTES}
use Rattle.minute_line.specs.Marks.{is_off, is_duty, is_weekly}
use Rattle.minute_line.specs.Minutes.{Minute, Minutes, Reached, stretch, add_block, add_stint, nothing, reached_by}
use Rattle.minute_line.specs.Stints.{is_past}
use Rattle.minute_line.specs.Histories.{Fields, fields_of}
use Rattle.minute_line.specs.Debts.{with_debt}
use Rattle.hours_rules.specs.declared.clocks.Clock.{Clock}
use Rattle.hours_rules.specs.Counts.{ends_weekly}
use Rattle.hours_rules.specs.Debts.{Debt, debt_along}
use Rattle.hours_rules.specs.Rules.{Past, whole, debt_of}
use Rattle.hours_rules.specs.Standing.{Stands}
use Rattle.hours_rules.specs.Machine.{run_ended, weekly_here}
use Rattle.hours_rules.specs.Verdicts.{debt_from, past_from, past_of}
use Rattle.hours_rules.proofs.Debts.{owed-duty, due-duty}
use Rattle.hours_rules.proofs.DebtSizes.{NoWeekly, no_weekly-history, no_weekly-stretch, no_weekly-stints, no_weekly-nothing}
use Rattle.driver_history.specs.Debts.{debt_at_start, debt_left, weeks_due}
use Rattle.driver_history.specs.Owing.{owe_stint, owing_from, owing_on_monday, owed_left, weeks_later}
use Rattle.driver_history.proofs.Watching.{after_block, declared_after, declared_by, each_lasts, Lasts, first_lasts, rest_lasts, stands-stint, declared-add_stint}
use Rattle.driver_history.proofs.OwedClocks.{as_debt, debt_in, begun_after, begun_by, Owes, owes-fold, owes-monday, begun-fold, weeks-is}
use Rattle.driver_history.proofs.Pasts.{cuts_none, cuts-past, lasts-line}
use Rattle.driver_history.proofs.Weeks.{first_clock, past_clock, monday_clock, monday-stands}

-- where no weekly rest ends in a list, its debt began with it
start-none : (debt : Debt) (monday : ℕ) (line : Minutes) → NoWeekly line → debt_at_start debt monday line ≡ debt
unfolding NoWeekly
start-none debt monday [] w = refl
start-none debt monday (m ∷ before) w =
    let none : ends_weekly m before ≡ false = grind (arith, w.0) in rw none (start-none debt monday before w.1)

start-off : (debt : Debt) (monday n : ℕ) (line : Minutes) → debt_at_start debt monday (replicate n (record { mark = Off; kind = Plain }) ++ line) ≡ debt_at_start debt monday line
start-off debt monday zero line = refl
start-off debt monday (suc n) line = start-off debt monday n line

-- of a block the first minute alone can end a run
start-duty : (debt : Debt) (monday n : ℕ) (m : Minute) (line : Minutes) → is_duty m.mark ≡ true → 1 ≤ n →
    debt_at_start debt monday (replicate n m ++ line) ≡ cond (ends_weekly m line) (debt_along debt monday (m ∷ line)) (debt_at_start debt monday line)
start-duty debt monday zero m line d l = absurd (omega arith)
start-duty debt monday (suc zero) m line d l = refl
start-duty debt monday (suc (suc n)) m line d l =
    let none : ends_weekly m (replicate (suc n) m ++ line) ≡ false = rw d refl in
    rw none (start-duty debt monday (suc n) m line d (omega arith))

-- the debt where what is left of the line after `week` begins
abbrev starts : Past → Minutes → Debt
starts past week = debt_at_start past.debt (length past.minutes) (whole past week)

starts-off : (past : Past) (n : ℕ) (week : Minutes) → starts past (stretch n Off Plain week) ≡ starts past week
starts-off past n week =
    ap (debt_at_start past.debt (length past.minutes)) (append_assoc (replicate n (record { mark = Off; kind = Plain })) week past.minutes)
    ∙ start-off past.debt (length past.minutes) n (whole past week)

starts-duty : (k : Clock) (past : Past) (b : Debt) (n : ℕ) (mark : Mark) (kind : Kind) (week : Minutes) → is_duty mark ≡ true → 1 ≤ n →
    Stands k past week → starts past week ≡ b → starts past (stretch n mark kind week) ≡ cond (weekly_here k kind) (debt_in (run_ended k kind)) b
starts-duty k past b n mark kind week d l s e =
    let m : Minute = record { mark = mark; kind = kind } in
    let same : ends_weekly m (whole past week) ≡ weekly_here k kind = rw (d, s.off) refl in
    let debt : debt_of past (m ∷ week) ≡ debt_in (run_ended k kind) =
    λ i. record { owed = sym (owed-duty k past m week d s) i; due = sym (due-duty k past m week d s) i } in
    ap (debt_at_start past.debt (length past.minutes)) (append_assoc (replicate n m) week past.minutes)
    ∙ start-duty past.debt (length past.minutes) n m (whole past week) d l
    ∙ ap (λ (w : Bool). cond w (debt_of past (m ∷ week)) (starts past week)) same
    ∙ ap (λ (x : Debt). cond (weekly_here k kind) x (starts past week)) debt
    ∙ ap (λ (x : Debt). cond (weekly_here k kind) (debt_in (run_ended k kind)) x) e

starts-mark : (k : Clock) (past : Past) (b : Debt) (r : Reached) (m : Mark) (n : ℕ) (kind : Kind) → (is_off m ≡ false → 1 ≤ n) → Stands k past r.minutes →
    starts past r.minutes ≡ b → starts past (add_block m n kind r).minutes ≡ cond (is_off m) b (cond (weekly_here k r.declared) (debt_in (run_ended k r.declared)) b)
starts-mark k past b r Off n kind l s e = starts-off past n r.minutes ∙ e
starts-mark k past b r Drive n kind l s e = starts-duty k past b n Drive r.declared r.minutes refl (l refl) s e
starts-mark k past b r Work n kind l s e = starts-duty k past b n Work r.declared r.minutes refl (l refl) s e
starts-mark k past b r Ready n kind l s e = starts-duty k past b n Ready r.declared r.minutes refl (l refl) s e

starts-stint : (k : Clock) (past : Past) (b : Debt) (r : Reached) (d : Kind) (s : Stint) → r.declared ≡ d → Lasts s → Stands k past r.minutes →
    starts past r.minutes ≡ b → starts past (add_stint r s).minutes ≡ begun_after b k d s
starts-stint k past b r d s e l h f = rw (← e) (starts-mark k past b r s.mark s.minutes s.kind l h f)

starts-watch : (ss : List Stint) (k : Clock) (past : Past) (b : Debt) (r : Reached) (d : Kind) → r.declared ≡ d → each_lasts ss ≡ true →
    Stands k past r.minutes → starts past r.minutes ≡ b → starts past (fold add_stint r ss).minutes ≡ begun_by b k d ss
starts-watch [] k past b r d e l h f = f
starts-watch (s ∷ ss) k past b r d e l h f =
    starts-watch ss _ past (begun_after b k d s) (add_stint r s) _ (declared-add_stint s r) (rest_lasts s ss l)
    (stands-stint k past r d s e (first_lasts s ss l) h) (starts-stint k past b r d s e (first_lasts s ss l) h f)

-- the debt where the line begins that is left of a history and a week
pub left-begun : (h : History) (line : Line) → debt_left (fields_of h) line.stints ≡ begun_by (debt_from (fields_of h)) (monday_clock h) Plain line.stints
left-begun h line =
    starts-off (past_of h) (WEEK_MINUTES - length (reached_by line.stints).minutes) (reached_by line.stints).minutes
    ∙ starts-watch line.stints (monday_clock h) (past_of h) (debt_from (fields_of h)) nothing Plain refl (lasts-line line.stints line.shape) (monday-stands h)
    (start-none (debt_from (fields_of h)) (length (past_of h).minutes) (past_of h).minutes (no_weekly-history h))

-- where no weekly rest ends the debt began as it was
begun-same : (b : Debt) (k : Clock) (d : Kind) (s : Stint) (w : Bool) → (is_weekly d ≡ true → w ≡ true) → (is_off s.mark || not w) ≡ true → begun_after b k d s ≡ b
begun-same b k d s w i h = by_mark (is_off s.mark) refl
  where
    never : is_off s.mark ≡ false → w ≡ true → ⊥
    never e t = let bad : (is_off s.mark || not w) ≡ false = rw (e, t) refl in cc

    by_kind : is_off s.mark ≡ false → (t : Bool) → is_weekly d ≡ t → begun_after b k d s ≡ b
    by_kind e true t = absurd (never e (i t))
    by_kind e false t = let none : weekly_here k d ≡ false = grind (arith, t) in rw (e, none) refl

    by_mark : (off : Bool) → is_off s.mark ≡ off → begun_after b k d s ≡ b
    by_mark true e = rw e refl
    by_mark false e = by_kind e (is_weekly d) refl

ends-declared : (s : Stint) → is_weekly (declared_after s) ≡ true → (is_off s.mark && is_weekly s.kind) ≡ true
ends-declared s h = by_mark (is_off s.mark) refl
  where
    by_mark : (off : Bool) → is_off s.mark ≡ off → (is_off s.mark && is_weekly s.kind) ≡ true
    by_mark true e = let kind : is_weekly s.kind ≡ true = rw e at h in rw (e, kind) refl
    by_mark false e = let plain : declared_after s ≡ Plain = rw e refl in let bad : is_weekly (declared_after s) ≡ false = rw plain refl in cc

pub begun-uncut : (ss : List Stint) (b : Debt) (k : Clock) (d : Kind) (w : Bool) → (is_weekly d ≡ true → w ≡ true) → cuts_none w ss ≡ true → begun_by b k d ss ≡ b
begun-uncut [] b k d w i h = refl
begun-uncut (s ∷ ss) b k d w i h =
    let first : (is_off s.mark || not w) ≡ true = grind arith in
    let more : cuts_none (is_off s.mark && is_weekly s.kind) ss ≡ true = grind arith in
    ap (λ (x : Debt). begun_by x (after_block k d s.mark s.minutes) (declared_after s) ss) (begun-same b k d s w i first)
    ∙ begun-uncut ss b (after_block k d s.mark s.minutes) (declared_after s) (is_off s.mark && is_weekly s.kind) (ends-declared s) more

pub begun-past : (h : History) → begun_by (debt_from (fields_of h)) (first_clock h.prev_weekly h.prev_drive (sum h.work16) (debt_from (fields_of h))) Plain h.stints.stints ≡ debt_from (fields_of h)
begun-past h = begun-uncut h.stints.stints (debt_from (fields_of h)) _ Plain false (λ e. e) (cuts-past false h.stints.stints h.shape)

-- the code's debt on Monday is that of the clock
owes-on_monday : (h : History) → Owes (owing_on_monday (fold owe_stint (owing_from (record { owed = h.owed; due = h.due })) h.stints.stints) h.open_off) (monday_clock h) Plain
owes-on_monday h =
    owes-monday _ (past_clock h) (declared_by Plain h.stints.stints) h.open_off
    (owes-fold h.stints.stints (owing_from (record { owed = h.owed; due = h.due }))
    (first_clock h.prev_weekly h.prev_drive (sum h.work16) (debt_from (fields_of h))) Plain
    (record { off = refl; kind = refl; at = refl; owed = refl; due = refl }))

-- the code's debt where the line begins that is left of a history and a week
pub left-owed : (h : History) (line : Line) →
    as_debt (owed_left (fields_of h) line.stints) ≡ begun_by (debt_from (fields_of h)) (monday_clock h) Plain line.stints
left-owed h line =
    begun-fold line.stints _ (debt_from (fields_of h)) (monday_clock h) Plain (owes-on_monday h)
    (begun-fold h.stints.stints (owing_from (record { owed = h.owed; due = h.due })) (debt_from (fields_of h))
    (first_clock h.prev_weekly h.prev_drive (sum h.work16) (debt_from (fields_of h))) Plain
    (record { off = refl; kind = refl; at = refl; owed = refl; due = refl }) refl
    ∙ begun-past h)

-- a week in which nothing is done leaves the debt
pub left-idle : (f : Fields) → is_past false f.stints ≡ true → debt_left f [] ≡ debt_from f
left-idle f h =
    starts-off (past_from f) (WEEK_MINUTES - length (reached_by []).minutes) []
    ∙ start-none (debt_from f) (length (past_from f).minutes) (past_from f).minutes
    (no_weekly-stretch f.open_off Off Plain _ refl (no_weekly-stints false f.stints (record { minutes = []; declared = Plain }) h no_weekly-nothing))

-- the history states that debt
pub states-debt : (h : History) (line : Line) (f : Fields) →
    with_debt (owed_left (fields_of h) line.stints).owed (weeks_later (owed_left (fields_of h) line.stints)) f
    ≡ with_debt (debt_left (fields_of h) line.stints).owed (weeks_due (debt_left (fields_of h) line.stints)) f
states-debt h line f =
    let owed = owed_left (fields_of h) line.stints in
    ap (λ (weeks : ℕ). with_debt owed.owed weeks f) (sym (weeks-is owed))
    ∙ ap (λ (debt : Debt). with_debt debt.owed (weeks_due debt) f) (left-owed h line ∙ sym (left-begun h line))

-- no weekly rest ends in the minutes of stints of which none cuts
record Uncut (r : Reached) (w : Bool) : Type 0 where
  minutes : NoWeekly r.minutes
  declared : is_weekly r.declared ≡ true → w ≡ true

uncut-duty : (r : Reached) (w : Bool) → Uncut r w → w ≡ false → is_weekly r.declared ≡ false
uncut-duty r w u e = by_kind (is_weekly r.declared) refl
  where
    by_kind : (t : Bool) → is_weekly r.declared ≡ t → is_weekly r.declared ≡ false
    by_kind true t = let bad : w ≡ true = u.declared t in cc
    by_kind false t = t

uncut-mark : (r : Reached) (w : Bool) (m : Mark) (n : ℕ) (kind : Kind) → Uncut r w → (is_off m || not w) ≡ true → Uncut (add_block m n kind r) (is_off m && is_weekly kind)
uncut-mark r w Off n kind u h = record { minutes = no_weekly-stretch n Off Plain r.minutes refl u.minutes; declared = λ e. rw e refl }
uncut-mark r true Drive n kind u h = cc
uncut-mark r true Work n kind u h = cc
uncut-mark r true Ready n kind u h = cc
uncut-mark r false Drive n kind u h = record { minutes = no_weekly-stretch n Drive r.declared r.minutes (uncut-duty r false u refl) u.minutes; declared = λ e. cc }
uncut-mark r false Work n kind u h = record { minutes = no_weekly-stretch n Work r.declared r.minutes (uncut-duty r false u refl) u.minutes; declared = λ e. cc }
uncut-mark r false Ready n kind u h = record { minutes = no_weekly-stretch n Ready r.declared r.minutes (uncut-duty r false u refl) u.minutes; declared = λ e. cc }

uncut-minutes : (ss : List Stint) (r : Reached) (w : Bool) → Uncut r w → cuts_none w ss ≡ true → NoWeekly (fold add_stint r ss).minutes
uncut-minutes [] r w u h = u.minutes
uncut-minutes (s ∷ ss) r w u h =
    let first : (is_off s.mark || not w) ≡ true = grind arith in
    let more : cuts_none (is_off s.mark && is_weekly s.kind) ss ≡ true = grind arith in
    uncut-minutes ss (add_stint r s) (is_off s.mark && is_weekly s.kind) (uncut-mark r w s.mark s.minutes s.kind u first) more

pub no_weekly-rows : (ss : List Stint) → cuts_none false ss ≡ true → NoWeekly (reached_by ss).minutes
no_weekly-rows ss h = uncut-minutes ss nothing false (record { minutes = no_weekly-nothing.minutes; declared = λ e. e }) h
