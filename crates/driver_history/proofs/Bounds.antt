-- What is left of a lawful line keeps the bounds of a history.
use Rattle.std.proofs.Common.{◌≡◌, ℕ, ◌+◌, ◌≤◌, Bool, true, false, cond, not, ◌&&◌, ◌||◌, leb, ltb, List, [], ◌∷◌, ◌++◌, refl, fold, arith, suc, zero, replicate, length, sym, ◌∙◌, ap, None, Some, Option}
use Rattle.std.proofs.lemmas.Int.{ints}
use Rattle.std.proofs.lemmas.Bool.Decides.{nat_tests}
use Rattle.std.proofs.lemmas.List.Sums.{sum_by-cons}
use Rattle.minute_line.specs.declared.marks.Mark.{Mark}
use Rattle.minute_line.specs.declared.marks.Kind.{Kind}
use Rattle.minute_line.specs.declared.marks.Kind.TheVariants.{Plain, Daily, Weekly}
use Rattle.minute_line.specs.declared.marks.Stint.{Stint}
use Rattle.minute_line.specs.Marks.{is_off, is_duty, is_weekly}
use Rattle.minute_line.specs.Minutes.{Minute, Minutes, Reached, stretch, add_stint, total_of}
use Rattle.hours_rules.specs.declared.clocks.Clock.{Clock}
use Rattle.hours_rules.specs.declared.rules.Broken.{Broken}
use Rattle.hours_rules.specs.declared.rules.Rule.TheVariants.{H5, H6}
use Rattle.hours_rules.specs.Counts.{open_run, since_weekly, last_weekly}
use Rattle.hours_rules.specs.Rules.{Past, fault, whole, debt_of}
use Rattle.hours_rules.specs.Standing.{Stands}
use Rattle.hours_rules.proofs.Simulate.{every-minute}
use Rattle.hours_rules.proofs.Stints.{fault_stays-stints, block-duty}
use Rattle.hours_rules.proofs.Faults.{block-stands}
use Rattle.driver_history.specs.Carrying.{SinceWeeklyRestFields, carry, add_off, add_duty, end_off, all_stints}
use Rattle.driver_history.specs.Keeping.{KeepsHistoryBounds, held}
use Rattle.driver_history.proofs.Carry.{whole_of, weekly_ends, all_total, carry_small, prev-end_off, prev-add_duty}
use Rattle.driver_history.proofs.Shapes.{past-carry}
use Rattle.driver_history.proofs.Watching.{Tracks, tracks-carry, tracks-duty, duty_off, each_lasts, Lasts, first_lasts, rest_lasts, stands-stint, declared-add_stint}

-- no fault after some stints, none before them
pub none_before : (past : Past) (ss : List Stint) (r : Reached) → fault past (fold add_stint r ss).minutes ≡ None → fault past r.minutes ≡ None
none_before past ss r h = by_fault (fault past r.minutes) refl
  where
    by_fault : (o : Option Broken) → fault past r.minutes ≡ o → fault past r.minutes ≡ None
    by_fault None e = e
    by_fault (Some b) e = let bad = fault_stays-stints 0 past b ss r e in cc

-- the first minute of a block stands on what is before it
first_of_block : (n : ℕ) (m : Minute) (w : Minutes) → replicate n m ++ m ∷ w ≡ replicate (suc n) m ++ w
first_of_block zero m w = refl
first_of_block (suc n) m w = ap (λ x. m ∷ x) (first_of_block n m w)

-- the limit of a week since the last weekly rest
six_days : (past : Past) (n : ℕ) (m : Mark) (kind : Kind) (w : Minutes) → is_duty m ≡ true → 1 ≤ n →
    fault past (stretch n m kind w) ≡ None → length (since_weekly (whole past (stretch n m kind w))) ≤ 8640
six_days past zero m kind w d l h = absurd (omega arith)
six_days past (suc n) m kind w d l h =
    let r = every-minute past [] (record { mark = m; kind = kind }) (stretch n m kind w) h H6 in grind (arith, nat_tests)

-- the least length of a weekly rest that ends
weekly_length : (past : Past) (n : ℕ) (m : Mark) (w : Minutes) → is_duty m ≡ true → 1 ≤ n →
    fault past (stretch n m Weekly w) ≡ None → 1 ≤ open_run (whole past w) → 1440 ≤ open_run (whole past w)
weekly_length past zero m w d l h o = absurd (omega arith)
weekly_length past (suc n) m w d l h o =
    let first : Minute = record { mark = m; kind = Weekly } in
    let r = every-minute past (replicate n first) first w (rw (first_of_block n first w) h) H5 in
    long_enough (open_run (whole past w)) (last_weekly past.prev_weekly (whole past w)) (debt_of past w).owed (is_duty m) d o r
  where
    long_enough : (run before owed : ℕ) (duty : Bool) → duty ≡ true → 1 ≤ run →
        (not (duty && leb 1 run) || leb (cond (ltb before 2700 || ltb 0 owed) 2700 1440) run) ≡ true → 1440 ≤ run
    long_enough run before owed duty d o r = grind (arith, nat_tests)

pub weekly_kind : (kind : Kind) → is_weekly kind ≡ true → kind ≡ Weekly
weekly_kind Plain h = cc
weekly_kind Daily h = cc
weekly_kind Weekly h = refl

both_true : (a b : Bool) → (a && b) ≡ true → (a ≡ true) × (b ≡ true)
both_true true true h = (refl, refl)
both_true true false h = cc
both_true false b h = cc

some_off : (n : ℕ) → leb 1 n ≡ true → 1 ≤ n
some_off n h = grind (arith, nat_tests)

-- a weekly rest that ends in a lawful line has its length
rest-duty : (past : Past) (c : SinceWeeklyRestFields) (k : Clock) (d : Kind) (w : Minutes) (m : Mark) (n : ℕ) → is_off m ≡ false → 1 ≤ n →
    Stands k past w → Tracks c k d → 1440 ≤ c.prev_weekly → fault past (stretch n m d w) ≡ None →
    1440 ≤ (add_duty (end_off c) m n).prev_weekly
rest-duty past c k d w m n f l s t p h = rw (prev-add_duty (end_off c) m n, prev-end_off c) (by_end (weekly_ends c) refl)
  where
    by_end : (b : Bool) → weekly_ends c ≡ b → 1440 ≤ cond b c.open_off c.prev_weekly
    by_end false e = p
    by_end true e =
        let both = both_true (leb 1 c.open_off) (is_weekly c.declared) e in
        let kind : d ≡ Weekly = t.kind ∙ weekly_kind c.declared both.1 in
        let run : open_run (whole past w) ≡ c.open_off = sym s.off ∙ t.off in
        let some : 1 ≤ open_run (whole past w) = rw run (some_off c.open_off both.0) in
        rw run at (weekly_length past n m w (duty_off m f) l (rw kind at h) some)

short-duty : (c : SinceWeeklyRestFields) (m : Mark) (n : ℕ) → c.prev_weekly ≤ 1000000 → c.open_off ≤ 1000000 → (add_duty (end_off c) m n).prev_weekly ≤ 1000000
short-duty c m n p o = rw (prev-add_duty (end_off c) m n, prev-end_off c) (by_end (weekly_ends c))
  where
    by_end : (b : Bool) → cond b c.open_off c.prev_weekly ≤ 1000000
    by_end true = o
    by_end false = p

total-duty : (past : Past) (c : SinceWeeklyRestFields) (k : Clock) (d : Kind) (w : Minutes) (m : Mark) (n : ℕ) → is_off m ≡ false → 1 ≤ n →
    Stands k past w → Tracks c k d → fault past (stretch n m d w) ≡ None → total_of (all_stints (add_duty (end_off c) m n)) ≤ 20160
total-duty past c k d w m n f l s t h =
    let t' = tracks-duty c k d m n t in
    let s' = block-stands k past n m d w (duty_off m f) (omega arith) s in
    let most = six_days past n m d w (duty_off m f) l h in
    let since = t'.since in let at = s'.at in let from = s'.rest_from in
    let all : whole_of (add_duty (end_off c) m n) ≤ 8640 = omega (arith, ints) in
    omega (arith, all_total (add_duty (end_off c) m n))

kept-duty : (past : Past) (c : SinceWeeklyRestFields) (k : Clock) (d : Kind) (w : Minutes) (s : Stint) → is_off s.mark ≡ false → 1 ≤ s.minutes →
    Stands k past w → Tracks c k d → KeepsHistoryBounds c → c.open_off ≤ 1000000 → fault past (stretch s.minutes s.mark d w) ≡ None →
    KeepsHistoryBounds (carry c s)
kept-duty past c k d w s f l st t kept o h =
    let next : carry c s ≡ add_duty (end_off c) s.mark s.minutes = rw f refl in record {
      rest = rw next (rest-duty past c k d w s.mark s.minutes f l st t kept.rest h);
      short = rw next (short-duty c s.mark s.minutes kept.short o);
      shape = past-carry c s kept.shape (λ (e : is_off s.mark ≡ false). l);
      total = rw next (total-duty past c k d w s.mark s.minutes f l st t h);
    }

pub kept-off : (c : SinceWeeklyRestFields) (n : ℕ) (kind : Kind) → KeepsHistoryBounds c → KeepsHistoryBounds (add_off c n kind)
kept-off c n kind k = record { rest = k.rest; short = k.short; shape = k.shape; total = k.total }

pub kept-carry : (past : Past) (c : SinceWeeklyRestFields) (k : Clock) (d : Kind) (r : Reached) (s : Stint) → Lasts s → r.declared ≡ d →
    Stands k past r.minutes → Tracks c k d → KeepsHistoryBounds c → c.open_off ≤ 1000000 → fault past (add_stint r s).minutes ≡ None →
    KeepsHistoryBounds (carry c s)
kept-carry past c k d r s l e st t kept o h = by_mark (is_off s.mark) refl
  where
    by_mark : (b : Bool) → is_off s.mark ≡ b → KeepsHistoryBounds (carry c s)
    by_mark true f = rw f (kept-off c s.minutes s.kind kept)
    by_mark false f =
        kept-duty past c k d r.minutes s f (l f) st t kept o (rw (block-duty s.mark s.minutes s.kind r (duty_off s.mark f), e) at h)

pub kept-fold : (past : Past) (ss : List Stint) (c : SinceWeeklyRestFields) (k : Clock) (d : Kind) (r : Reached) → each_lasts ss ≡ true → r.declared ≡ d →
    Stands k past r.minutes → Tracks c k d → KeepsHistoryBounds c → held c + total_of ss ≤ 1000000 → fault past (fold add_stint r ss).minutes ≡ None →
    KeepsHistoryBounds (fold carry c ss)
kept-fold past [] c k d r l e st t kept o h = kept
kept-fold past (s ∷ ss) c k d r l e st t kept o h =
    let sum = sum_by-cons (λ (x : Stint). x.minutes) s ss in
    let now = none_before past ss (add_stint r s) h in
    let small = carry_small c s in
    kept-fold past ss (carry c s) _ _ (add_stint r s) (rest_lasts s ss l) (declared-add_stint s r)
    (stands-stint k past r d s e (first_lasts s ss l) st) (tracks-carry c k d s t)
    (kept-carry past c k d r s (first_lasts s ss l) e st t kept (omega arith) now)
    (omega (arith, small, sum)) h
