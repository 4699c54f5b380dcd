-- A rule holds at the minutes that its room allows, and fails at the next.
use Rattle.std.proofs.Common.{◌≡◌, ℕ, ◌+◌, ◌-◌, ◌≤◌, ◌<◌, Bool, true, false, cond, not, ◌&&◌, ◌||◌, eqb, leb, ltb, length, refl, sym, arith, pos, ℤ, ◌-ℤ◌, min, suc, zero, le-leb, int_le}
use Rattle.std.proofs.lemmas.Bool.{lt-leb, or_right}
use Rattle.std.proofs.lemmas.Bool.Decides.{nat_tests}
use Rattle.std.proofs.lemmas.Int.{ints}
use Rattle.minute_line.specs.declared.marks.Mark.{Mark}
use Rattle.minute_line.specs.declared.marks.Kind.{Kind}
use Rattle.minute_line.specs.Minutes.{Minutes, stretch}
use Rattle.hours_rules.specs.declared.clocks.Clock.{Clock}
use Rattle.hours_rules.specs.declared.rules.Rule.{Rule}
use Rattle.hours_rules.specs.declared.rules.Rule.TheVariants.{H1, H2, H3, H4, H5, H6, H7, H8, H9, H10, H11, H12}
use Rattle.minute_line.specs.Marks.{is_duty}
use Rattle.hours_rules.specs.Counts.{work_day_of, since_weekly}
use Rattle.hours_rules.specs.Rules.{Past, whole, holds}
use Rattle.hours_rules.specs.Standing.{Stands}
use Rattle.hours_rules.specs.Machine.{run_ended, room, left_until}
use Rattle.hours_rules.proofs.Blocks.{stands-block}

-- the length of a span at the end of a block, from where it began
left_within : (duty : Bool) (limit at j len span : ℕ) (from : ℤ) → at + suc j ≡ len → from ≡ pos len -ℤ pos span → j < left_until limit from at →
    (not duty || leb span limit) ≡ true
left_within duty limit at j len span from e f h = let l : span ≤ limit = grind (arith, ints) in or_right (not duty) _ (le-leb span limit l)

left_past : (duty : Bool) (limit at j len span : ℕ) (from : ℤ) → duty ≡ true → at + suc j ≡ len → from ≡ pos len -ℤ pos span → left_until limit from at ≡ j →
    (not duty || leb span limit) ≡ false
left_past duty limit at j len span from d e f h = let l : limit < span = grind (arith, ints) in rw d (lt-leb span limit l)

-- a number that stays as it is
at_most : (duty : Bool) (n limit j count : ℕ) → n ≡ count → j < cond (leb n limit) 20000 0 → (not duty || leb count limit) ≡ true
at_most duty n limit j count e h = grind (arith, nat_tests)

past_most : (duty : Bool) (n limit j count : ℕ) → duty ≡ true → n ≡ count → cond (leb n limit) 20000 0 ≡ j → j < 20000 → (not duty || leb count limit) ≡ false
past_most duty n limit j count d e h l = grind (arith, nat_tests)

-- the length of the run that is ended
long_enough : (duty : Bool) (off run least limit : ℕ) → off ≡ run → 0 < cond (leb 1 off && ltb off least) 0 20000 →
    (not (duty && leb 1 run) || leb least run) ≡ true
long_enough duty off run least limit e h = grind (arith, nat_tests)

too_short : (duty : Bool) (off run least j : ℕ) → duty ≡ true → off ≡ run → cond (leb 1 off && ltb off least) 0 20000 ≡ j → j < 20000 →
    (not (duty && leb 1 run) || leb least run) ≡ false
too_short duty off run least j d e h l = grind (arith, nat_tests)

one_or_none : (b : Bool) (j : ℕ) → cond b 0 20000 ≡ j → 0 < j → j < 20000 → ⊥
one_or_none true j h k l = omega arith
one_or_none false j h k l = omega arith

-- the time that is left to pay a debt
in_time : (duty : Bool) (at j len owed debt : ℕ) (due end : ℤ) → at + suc j ≡ len → owed ≡ debt → due ≡ end →
    j < cond (ltb 0 owed) (min 20000 (left_until 0 (due -ℤ pos (660 + owed)) at)) 20000 →
    (not duty || (eqb debt 0 || int_le (pos (len + 660 + debt)) end)) ≡ true
in_time duty at j len zero debt due end e f g h = rw (← f) (or_right (not duty) _ refl)
in_time duty at j len (suc k) debt due end e f g h =
    let l : int_le (pos (len + 660 + suc k)) due ≡ true = grind (arith, ints) in
    rw (← f, ← g, l) (or_right (not duty) _ (or_right _ _ refl))

too_late : (duty : Bool) (at j len owed debt : ℕ) (due end : ℤ) → duty ≡ true → at + suc j ≡ len → owed ≡ debt → due ≡ end →
    cond (ltb 0 owed) (min 20000 (left_until 0 (due -ℤ pos (660 + owed)) at)) 20000 ≡ j → j < 20000 →
    (not duty || (eqb debt 0 || int_le (pos (len + 660 + debt)) end)) ≡ false
too_late duty at j len zero debt due end d e f g h l = absurd (omega arith)
too_late duty at j len (suc k) debt due end d e f g h l =
    let late : int_le (pos (len + 660 + suc k)) due ≡ false = grind (arith, ints) in
    let some : eqb (suc k) 0 ≡ false = grind (arith, nat_tests) in
    rw (d, ← f, ← g, some, late) refl

-- the pauses of the work day
paused : (working : Bool) (worked had j pause off : ℕ) → worked ≡ cond working (suc j) 0 + had → pause ≡ min 45 off →
    j < cond (working && ltb pause 45) (cond (ltb pause 30) 360 540 - had) 20000 →
    (not working || ((ltb worked 361 || leb 30 off) && (ltb worked 541 || leb 45 off))) ≡ true
paused working worked had j pause off e f h = grind (arith, nat_tests)

unpaused : (working : Bool) (worked had j pause off : ℕ) → worked ≡ cond working (suc j) 0 + had → pause ≡ min 45 off →
    cond (working && ltb pause 45) (cond (ltb pause 30) 360 540 - had) 20000 ≡ j → j < 20000 →
    (not working || ((ltb worked 361 || leb 30 off) && (ltb worked 541 || leb 45 off))) ≡ false
unpaused working worked had j pause off e f h l = grind (arith, nat_tests)

-- two limits on working minutes
both_within : (working : Bool) (j had before week all : ℕ) → week ≡ cond working (suc j) 0 + had → all ≡ cond working (suc j) 0 + (had + before) →
    j < cond working (min (3600 - had) (48960 - (had + before))) 20000 →
    (not working || (leb week 3600 && leb all 48960)) ≡ true
both_within working j had before week all e f h = grind (arith, nat_tests)

both_past : (working : Bool) (j had before week all : ℕ) → week ≡ cond working (suc j) 0 + had → all ≡ cond working (suc j) 0 + (had + before) →
    cond working (min (3600 - had) (48960 - (had + before))) 20000 ≡ j → j < 20000 →
    (not working || (leb week 3600 && leb all 48960)) ≡ false
both_past working j had before week all e f h l = grind (arith, nat_tests)

-- a count of minutes under a limit
within : (test : Bool) (limit had j count : ℕ) → count ≡ cond test (suc j) 0 + had → j < cond test (limit - had) 20000 →
    (not test || leb count limit) ≡ true
within true limit had j count e h = le-leb count limit (omega arith)
within false limit had j count e h = refl

past_limit : (test : Bool) (limit had j count : ℕ) → count ≡ cond test (suc j) 0 + had → cond test (limit - had) 20000 ≡ j →
    j < 20000 → (not test || leb count limit) ≡ false
past_limit true limit had j count e h l = lt-leb count limit (omega arith)
past_limit false limit had j count e h l = absurd (omega arith)

pub holds-within : (c : Clock) (past : Past) (j : ℕ) (mark : Mark) (kind : Kind) (week : Minutes) → is_duty mark ≡ true →
    Stands c past week → (r : Rule) → j < room c (run_ended c kind) mark kind r →
    holds past (record { mark = mark; kind = kind }) (stretch j mark kind week) r ≡ true
holds-within c past j mark kind week d s H1 h = let t = stands-block c past j mark kind week d s in within _ _ _ _ _ (sym t.period) h
holds-within c past j mark kind week d s H2 h = let t = stands-block c past j mark kind week d s in
    rw (← t.long_days) (within _ _ _ _ _ (sym t.drive_day) h)
holds-within c past j mark kind week d s H3 h = let t = stands-block c past j mark kind week d s in
    left_within (is_duty mark) _ _ _ _ (length (work_day_of (whole past (stretch (suc j) mark kind week)))) _ t.at t.day_from h
holds-within c past j mark kind week d s H4 h = let t = stands-block c past j mark kind week d s in at_most _ _ _ _ _ t.reduced h
holds-within c past zero mark kind week d s H5 h = rw (← s.prev_weekly, ← s.owed) (long_enough _ _ _ _ 0 s.off h)
holds-within c past (suc j) mark kind week d s H5 h = rw d refl
holds-within c past j mark kind week d s H6 h = let t = stands-block c past j mark kind week d s in
    left_within (is_duty mark) _ _ _ _ (length (since_weekly (whole past (stretch (suc j) mark kind week)))) _ t.at t.rest_from h
holds-within c past j mark kind week d s H7 h = let t = stands-block c past j mark kind week d s in within _ _ _ _ _ (sym t.drive_week) h
holds-within c past j mark kind week d s H8 h = let t = stands-block c past j mark kind week d s in
    within _ _ _ _ _ (omega (arith, t.drive_week, t.prev_drive)) h
holds-within c past j mark kind week d s H9 h = let t = stands-block c past j mark kind week d s in
    both_within _ _ _ _ _ _ (sym t.work_week) (omega (arith, t.work_week, t.work_before)) h
holds-within c past j mark kind week d s H10 h = let t = stands-block c past j mark kind week d s in within _ _ _ _ _ (sym t.work_run) h
holds-within c past j mark kind week d s H11 h = let t = stands-block c past j mark kind week d s in
    paused _ _ _ _ _ _ (sym t.work_day) t.pause_day h
holds-within c past j mark kind week d s H12 h = let t = stands-block c past j mark kind week d s in
    in_time _ _ _ _ _ _ _ _ t.at t.owed t.due h

pub fails-past : (c : Clock) (past : Past) (j : ℕ) (mark : Mark) (kind : Kind) (week : Minutes) → is_duty mark ≡ true →
    Stands c past week → (r : Rule) → room c (run_ended c kind) mark kind r ≡ j → j < 20000 →
    holds past (record { mark = mark; kind = kind }) (stretch j mark kind week) r ≡ false
fails-past c past j mark kind week d s H1 h l = let t = stands-block c past j mark kind week d s in past_limit _ _ _ _ _ (sym t.period) h l
fails-past c past j mark kind week d s H2 h l = let t = stands-block c past j mark kind week d s in
    rw (← t.long_days) (past_limit _ _ _ _ _ (sym t.drive_day) h l)
fails-past c past j mark kind week d s H3 h l = let t = stands-block c past j mark kind week d s in
    left_past (is_duty mark) _ _ _ _ (length (work_day_of (whole past (stretch (suc j) mark kind week)))) _ d t.at t.day_from h
fails-past c past j mark kind week d s H4 h l = let t = stands-block c past j mark kind week d s in past_most _ _ _ _ _ d t.reduced h l
fails-past c past zero mark kind week d s H5 h l = rw (← s.prev_weekly, ← s.owed) (too_short (is_duty mark) _ _ _ 0 d s.off h l)
fails-past c past (suc j) mark kind week d s H5 h l = absurd (one_or_none _ (suc j) h (omega arith) l)
fails-past c past j mark kind week d s H6 h l = let t = stands-block c past j mark kind week d s in
    left_past (is_duty mark) _ _ _ _ (length (since_weekly (whole past (stretch (suc j) mark kind week)))) _ d t.at t.rest_from h
fails-past c past j mark kind week d s H7 h l = let t = stands-block c past j mark kind week d s in past_limit _ _ _ _ _ (sym t.drive_week) h l
fails-past c past j mark kind week d s H8 h l = let t = stands-block c past j mark kind week d s in
    past_limit _ _ _ _ _ (omega (arith, t.drive_week, t.prev_drive)) h l
fails-past c past j mark kind week d s H9 h l = let t = stands-block c past j mark kind week d s in
    both_past _ _ _ _ _ _ (sym t.work_week) (omega (arith, t.work_week, t.work_before)) h l
fails-past c past j mark kind week d s H10 h l = let t = stands-block c past j mark kind week d s in past_limit _ _ _ _ _ (sym t.work_run) h l
fails-past c past j mark kind week d s H11 h l = let t = stands-block c past j mark kind week d s in
    unpaused _ _ _ _ _ _ (sym t.work_day) t.pause_day h l
fails-past c past j mark kind week d s H12 h l = let t = stands-block c past j mark kind week d s in
    too_late _ _ _ _ _ _ _ _ d t.at t.owed t.due h l
