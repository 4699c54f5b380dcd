-- The order on clocks: what it allows, and that it lasts.
use Rattle.std.proofs.Common.{◌≡◌, ℕ, ◌+◌, ◌-◌, ◌≤◌, ◌<◌, ◌≤ℤ◌, Bool, true, false, cond, ◌&&◌, leb, ltb, refl, sym, ◌∙◌, arith, pos, ℤ, ◌-ℤ◌, min, suc, zero, int_lt}
use Rattle.std.proofs.lemmas.Bool.Decides.{nat_tests}
use Rattle.std.proofs.lemmas.Int.{ints}
use Rattle.minute_line.specs.declared.marks.Mark.{Mark}
use Rattle.minute_line.specs.declared.marks.Kind.{Kind}
use Rattle.minute_line.specs.declared.marks.Kind.TheVariants.{Plain, Daily, Weekly}
use Rattle.minute_line.specs.Minutes.{Minutes}
use Rattle.hours_rules.specs.declared.clocks.Clock.{Clock}
use Rattle.hours_rules.specs.declared.rules.Rule.{Rule}
use Rattle.hours_rules.specs.declared.rules.Rule.TheVariants.{H1, H2, H3, H4, H5, H6, H7, H8, H9, H10, H11, H12}
use Rattle.minute_line.specs.Marks.{is_duty, is_drive, is_working}
use Rattle.hours_rules.specs.Rules.{Past, holds, least_rest}
use Rattle.hours_rules.specs.Standing.{Stands}
use Rattle.hours_rules.specs.Order.{DominatesAtMinute}
use Rattle.std.proofs.Common.{true≢false}
use Rattle.hours_rules.proofs.Owing.{LeavesLess, leaves-less}
use Rattle.hours_rules.proofs.Rooms.{holds-within, fails-past}
use Rattle.hours_rules.specs.Machine.{run_ended, ticked, rested, room, reduced_here, short_here, debt_room, limit_if, left_until}

-- each clock is as good as itself
pub as_good-itself : (c : Clock) → DominatesAtMinute c c
as_good-itself c = record {
  at = refl;
  off = refl;
  day_from = omega (arith, ints);
  rest_from = omega (arith, ints);
  period = omega arith;
  half = refl;
  drive_day = omega arith;
  long_days = omega arith;
  split = λ h. h;
  reduced = omega arith;
  prev_weekly = λ h. h;
  work_run = omega arith;
  work_day = omega arith;
  pause_day = omega arith;
  drive_week = omega arith;
  work_week = omega arith;
  prev_drive = refl;
  work_before = refl;
  owed = omega arith;
  due = λ h. omega (arith, ints);
}

offset_later : (at off : ℕ) (x y : ℤ) → y ≤ℤ x → int_lt (pos 780) ((pos at -ℤ x) -ℤ pos off) ≡ true →
    int_lt (pos 780) ((pos at -ℤ y) -ℤ pos off) ≡ true
offset_later at off x y g h = grind (arith, ints)

reduced_both : (a b : Clock) (kind : Kind) → DominatesAtMinute a b → reduced_here a kind ≡ true → reduced_here b kind ≡ true
reduced_both a b kind g h =
    let o = offset_later b.at b.off a.day_from b.day_from g.day_from in
    let e = g.at in let f = g.off in
    grind (arith, o)

one_if : (x y : Bool) → (x ≡ true → y ≡ true) → cond x 1 0 ≤ cond y 1 0
one_if x y h = grind (arith, h)

pub ended-as_good : (a b : Clock) (kind : Kind) → short_here b kind ≡ false → DominatesAtMinute a b →
    DominatesAtMinute (run_ended a kind) (run_ended b kind)
ended-as_good a b kind long g = let less = leaves-less a b kind g.at (omega (arith, g.off)) (λ h. omega (arith, g.off)) long (record { owed = g.owed; due = g.due }) in record {
  at = g.at;
  off = refl;
  day_from = grind (arith, ints);
  rest_from = grind (arith, ints);
  period = grind arith;
  half = grind arith;
  drive_day = grind arith;
  long_days = grind (arith, nat_tests);
  split = grind arith;
  reduced = let one = one_if (reduced_here a kind) (reduced_here b kind) (reduced_both a b kind g) in grind (arith, one);
  prev_weekly = grind arith;
  work_run = grind arith;
  work_day = grind arith;
  pause_day = grind arith;
  drive_week = g.drive_week;
  work_week = g.work_week;
  prev_drive = g.prev_drive;
  work_before = g.work_before;
  owed = less.owed;
  due = less.due;
}

pub ticked-as_good : (a b : Clock) (mark : Mark) (n : ℕ) → DominatesAtMinute a b → DominatesAtMinute (ticked a mark n) (ticked b mark n)
ticked-as_good a b mark n g = record {
  at = grind arith;
  off = g.off;
  day_from = g.day_from;
  rest_from = g.rest_from;
  period = omega arith;
  half = g.half;
  drive_day = omega arith;
  long_days = g.long_days;
  split = g.split;
  reduced = g.reduced;
  prev_weekly = g.prev_weekly;
  work_run = omega arith;
  work_day = omega arith;
  pause_day = g.pause_day;
  drive_week = omega arith;
  work_week = omega arith;
  prev_drive = g.prev_drive;
  work_before = g.work_before;
  owed = g.owed;
  due = g.due;
}

pub rested-as_good : (a b : Clock) (n : ℕ) → DominatesAtMinute a b → DominatesAtMinute (rested a n) (rested b n)
rested-as_good a b n g = record {
  at = omega arith;
  off = omega arith;
  day_from = g.day_from;
  rest_from = g.rest_from;
  period = g.period;
  half = g.half;
  drive_day = g.drive_day;
  long_days = g.long_days;
  split = g.split;
  reduced = g.reduced;
  prev_weekly = g.prev_weekly;
  work_run = g.work_run;
  work_day = g.work_day;
  pause_day = g.pause_day;
  drive_week = g.drive_week;
  work_week = g.work_week;
  prev_drive = g.prev_drive;
  work_before = g.work_before;
  owed = g.owed;
  due = g.due;
}

-- a span that began as late leaves as many minutes, also at an earlier minute
pub left_sooner : (limit at_a at_b : ℕ) (x y : ℤ) → at_a ≤ at_b → y ≤ℤ x → left_until limit y at_b ≤ left_until limit x at_a
left_sooner limit at_a at_b x y l h = grind (arith, ints, nat_tests)

left_more : (limit at : ℕ) (x y : ℤ) → y ≤ℤ x → left_until limit y at ≤ left_until limit x at
left_more limit at x y h = left_sooner limit at at x y (omega arith) h

limit_left : (test : Bool) (limit x y : ℕ) → x ≤ y → limit_if test (limit - y) ≤ limit_if test (limit - x)
limit_left true limit x y h = omega arith
limit_left false limit x y h = omega arith

pub drive_left : (test : Bool) (k l x y : ℕ) → k ≤ l → x ≤ y →
    limit_if test (cond (ltb l 2) 600 540 - y) ≤ limit_if test (cond (ltb k 2) 600 540 - x)
drive_left test k l x y g h = grind (arith, nat_tests)

week_left : (test : Bool) (x y k : ℕ) → x ≤ y →
    limit_if test (min (3600 - y) (48960 - (y + k))) ≤ limit_if test (min (3600 - x) (48960 - (x + k)))
week_left true x y k h = omega arith
week_left false x y k h = omega arith

pause_left : (test : Bool) (p q x y : ℕ) → q ≤ p → x ≤ y →
    limit_if (test && ltb q 45) (cond (ltb q 30) 360 540 - y) ≤ limit_if (test && ltb p 45) (cond (ltb p 30) 360 540 - x)
pause_left true p q x y g h = grind (arith, nat_tests)
pause_left false p q x y g h = omega arith

least_rest-less : (kind : Kind) (x y k l : ℕ) → (2700 ≤ y → 2700 ≤ x) → k ≤ l → least_rest kind x k ≤ least_rest kind y l
least_rest-less Plain x y k l h m = omega arith
least_rest-less Daily x y k l h m = omega arith
least_rest-less Weekly x y k l h m = grind (arith, nat_tests)

run_left : (off k l : ℕ) → k ≤ l → cond (leb 1 off && ltb off l) 0 20000 ≤ cond (leb 1 off && ltb off k) 0 20000
run_left off k l h = grind (arith, nat_tests)

-- the room of a debt, over numbers
time_left : (at by owed debt : ℕ) (due end : ℤ) → at ≤ by → owed ≤ debt → (0 < owed → end ≤ℤ due) →
    limit_if (ltb 0 debt) (min 20000 (left_until 0 (end -ℤ pos (660 + debt)) by))
    ≤ limit_if (ltb 0 owed) (min 20000 (left_until 0 (due -ℤ pos (660 + owed)) at))
time_left at by zero zero due end e l d = omega arith
time_left at by zero (suc n) due end e l d = let some : ltb 0 (suc n) ≡ true = grind (arith, nat_tests) in rw some (omega arith)
time_left at by (suc k) zero due end e l d = absurd (omega arith)
time_left at by (suc k) (suc n) due end e l d = let later : end ≤ℤ due = d (omega arith) in
    let less = left_sooner 0 at by (due -ℤ pos (660 + suc k)) (end -ℤ pos (660 + suc n)) e (omega (arith, ints)) in
    let first : ltb 0 (suc n) ≡ true = grind (arith, nat_tests) in
    let second : ltb 0 (suc k) ≡ true = grind (arith, nat_tests) in rw (first, second) (omega (arith, less))

-- a smaller debt that is due no sooner leaves as much room, also at an earlier minute
pub debt_room-less : (a b : Clock) → a.at ≤ b.at → LeavesLess a b → debt_room b ≤ debt_room a
debt_room-less a b e d = time_left a.at b.at a.owed b.owed a.due b.due e d.owed d.due

-- the first's rules leave as much room, where its clock is as good before its run has ended and after
pub room-ended : (a b x y : Clock) (mark : Mark) (kind : Kind) → DominatesAtMinute a b → DominatesAtMinute x y → (r : Rule) →
    room b y mark kind r ≤ room a x mark kind r
room-ended a b x y mark kind g e H1 = limit_left (is_drive mark) 270 x.period y.period e.period
room-ended a b x y mark kind g e H2 = drive_left (is_drive mark) x.long_days y.long_days x.drive_day y.drive_day e.long_days e.drive_day
room-ended a b x y mark kind g e H3 = rw e.at (left_more 900 y.at x.day_from y.day_from e.day_from)
room-ended a b x y mark kind g e H4 = grind (arith, nat_tests)
room-ended a b x y mark kind g e H5 =
    rw g.off (run_left b.off _ _ (least_rest-less kind a.prev_weekly b.prev_weekly a.owed b.owed g.prev_weekly g.owed))
room-ended a b x y mark kind g e H6 = rw e.at (left_more 8640 y.at x.rest_from y.rest_from e.rest_from)
room-ended a b x y mark kind g e H7 = limit_left (is_drive mark) 3360 x.drive_week y.drive_week e.drive_week
room-ended a b x y mark kind g e H8 = let all : x.drive_week + x.prev_drive ≤ y.drive_week + y.prev_drive = omega arith in limit_left (is_drive mark) 5400 _ _ all
room-ended a b x y mark kind g e H9 = rw e.work_before (week_left (is_working mark) x.work_week y.work_week y.work_before e.work_week)
room-ended a b x y mark kind g e H10 = limit_left (is_working mark) 360 x.work_run y.work_run e.work_run
room-ended a b x y mark kind g e H11 = pause_left (is_working mark) x.pause_day y.pause_day x.work_day y.work_day e.pause_day e.work_day
room-ended a b x y mark kind g e H12 = debt_room-less x y (omega (arith, e.at)) (record { owed = e.owed; due = e.due })

pub room-as_good : (a b : Clock) (mark : Mark) (kind : Kind) → short_here b kind ≡ false → DominatesAtMinute a b → (r : Rule) →
    room b (run_ended b kind) mark kind r ≤ room a (run_ended a kind) mark kind r
room-as_good a b mark kind long g r = room-ended a b (run_ended a kind) (run_ended b kind) mark kind g (ended-as_good a b kind long g) r

-- one on-duty minute: a rule that the second's minute obeys, the first's obeys, where it leaves as much room
pub holds-by_room : (a b : Clock) (pa pb : Past) (wa wb : Minutes) (mark : Mark) (kind : Kind) → is_duty mark ≡ true →
    Stands a pa wa → Stands b pb wb → (r : Rule) → room b (run_ended b kind) mark kind r ≤ room a (run_ended a kind) mark kind r →
    holds pb (record { mark = mark; kind = kind }) wb r ≡ true → holds pa (record { mark = mark; kind = kind }) wa r ≡ true
holds-by_room a b pa pb wa wb mark kind d sa sb r l h = by_room (room b (run_ended b kind) mark kind r) refl
  where
    by_room : (k : ℕ) → room b (run_ended b kind) mark kind r ≡ k → holds pa (record { mark = mark; kind = kind }) wa r ≡ true
    by_room zero e = absurd (true≢false (sym h ∙ fails-past b pb 0 mark kind wb d sb r e (omega arith)))
    by_room (suc k) e = holds-within a pa 0 mark kind wa d sa r (omega (arith, l))

-- a run is long enough where its end breaks no rule
pub not_short : (b : Clock) (past : Past) (week : Minutes) (mark : Mark) (kind : Kind) → is_duty mark ≡ true → Stands b past week →
    holds past (record { mark = mark; kind = kind }) week H5 ≡ true → short_here b kind ≡ false
not_short b past week mark kind d s h = by_test (short_here b kind) refl
  where
    by_test : (t : Bool) → short_here b kind ≡ t → short_here b kind ≡ false
    by_test true e = let none : room b (run_ended b kind) mark kind H5 ≡ 0 = rw e refl in
        absurd (true≢false (sym h ∙ fails-past b past 0 mark kind week d s H5 none (omega arith)))
    by_test false e = e
