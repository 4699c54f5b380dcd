-- What the rules allow after a line, seen from a line that goes on without a fault.
use Rattle.std.proofs.Common.{◌≡◌, ℕ, zero, suc, ◌+◌, ◌≤◌, ◌<◌, true, cond, ◌&&◌, leb, ltb, subst, [], ◌∷◌, refl, sym, ◌∙◌, arith, Option, Some, None, true≢false, inl, inr, ◌⊎◌, ℤ, ◌≤ℤ◌, Bool, false, min, pos, ◌-ℤ◌}
use Rattle.std.proofs.lemmas.Bool.Decides.{nat_tests}
use Rattle.std.proofs.lemmas.Bool.{cases_lt}
use Rattle.std.proofs.lemmas.Int.{ints}
use Rattle.minute_line.specs.declared.marks.Mark.{Mark}
use Rattle.minute_line.specs.declared.marks.Mark.TheVariants.{Ready}
use Rattle.minute_line.specs.declared.marks.Kind.{Kind}
use Rattle.minute_line.specs.declared.marks.Kind.TheVariants.{Plain, Daily, Weekly}
use Rattle.minute_line.specs.Minutes.{Minute, Minutes, stretch}
use Rattle.minute_line.specs.Marks.{is_duty, is_rest}
use Rattle.hours_rules.specs.declared.clocks.Clock.{Clock}
use Rattle.hours_rules.specs.declared.rules.Broken.{Broken}
use Rattle.hours_rules.specs.declared.rules.Rule.{Rule}
use Rattle.hours_rules.specs.declared.rules.Rule.TheVariants.{H1, H2, H3, H4, H5, H6, H7, H8, H9, H10, H11, H12}
use Rattle.hours_rules.specs.Rules.{Past, holds, fault_from, least_rest}
use Rattle.hours_rules.specs.Standing.{Stands}
use Rattle.hours_rules.specs.Order.{DominatesAtMinute}
use Rattle.hours_rules.specs.Machine.{run_ended, room, left_until, limit_if, short_here}
use Rattle.hours_rules.proofs.Rooms.{fails-past}
use Rattle.hours_rules.proofs.Better.{room-as_good}
use Rattle.hours_rules.proofs.Owing.{LeavesLess, plain-owed, plain-due, plain-long}
use Rattle.hours_rules.proofs.Longer.{longer-rest}
use Rattle.hours_rules.proofs.Simulate.{every-minute}
use Rattle.dominance.proofs.ShiftedClocks.{settled}

-- a line without a fault has none before its last minute
none-before : (past : Past) (m : Minute) (week : Minutes) → fault_from 0 past (m ∷ week) ≡ None → fault_from 0 past week ≡ None
none-before past m week h = by_fault (fault_from 0 past week) refl
  where
    by_fault : (found : Option Broken) → fault_from 0 past week ≡ found → fault_from 0 past week ≡ None
    by_fault None e = e
    by_fault (Some b) e = let bad : fault_from 0 past (m ∷ week) ≡ Some b = rw e refl in cc

-- nor before a stretch of minutes
pub none-stretch : (past : Past) (n : ℕ) (mark : Mark) (kind : Kind) (week : Minutes) →
    fault_from 0 past (stretch n mark kind week) ≡ None → fault_from 0 past week ≡ None
none-stretch past zero mark kind week h = h
none-stretch past (suc n) mark kind week h =
    none-stretch past n mark kind week (none-before past (record { mark = mark; kind = kind }) (stretch n mark kind week) h)

-- minutes that break no rule are within each rule's room
pub room-kept : (c : Clock) (past : Past) (n : ℕ) (mark : Mark) (kind : Kind) (week : Minutes) → is_duty mark ≡ true → n ≤ 20000 →
    Stands c past week → fault_from 0 past (stretch n mark kind week) ≡ None → (r : Rule) → n ≤ room c (run_ended c kind) mark kind r
room-kept c past zero mark kind week d small s h r = omega arith
room-kept c past (suc n) mark kind week d small s h r =
    let m : Minute = record { mark = mark; kind = kind } in
    let before : fault_from 0 past (stretch n mark kind week) ≡ None = none-before past m (stretch n mark kind week) h in
    let most : n ≤ room c (run_ended c kind) mark kind r = room-kept c past n mark kind week d (omega arith) s before r in
    by_cases most (cases_lt n (room c (run_ended c kind) mark kind r))
  where
    by_cases : n ≤ room c (run_ended c kind) mark kind r →
        (n < room c (run_ended c kind) mark kind r) ⊎ (room c (run_ended c kind) mark kind r ≤ n) →
        suc n ≤ room c (run_ended c kind) mark kind r
    by_cases most (inl g) = omega arith
    by_cases most (inr g) =
        let holds_there : holds past (record { mark = mark; kind = kind }) (stretch n mark kind week) r ≡ true =
        every-minute past [] (record { mark = mark; kind = kind }) (stretch n mark kind week) h r in
        absurd (true≢false (sym holds_there ∙ fails-past c past n mark kind week d s r (omega arith) (omega arith)))

time_left : (limit at_a at_b k : ℕ) (x y : ℤ) → at_a + k ≤ at_b → y ≤ℤ x → 1 ≤ left_until limit y at_b → k ≤ left_until limit x at_a
time_left limit at_a at_b k x y e h l = grind (arith, ints, nat_tests)

rests_left : (x y k : ℕ) → x ≤ y → k ≤ 20000 → 1 ≤ cond (leb y 3) 20000 0 → k ≤ cond (leb x 3) 20000 0
rests_left x y k h s l = grind (arith, nat_tests)

pay_left : (at_a at_b k owed debt : ℕ) (due end : ℤ) → at_a + k ≤ at_b → k ≤ 20000 → owed ≤ debt → (0 < owed → end ≤ℤ due) →
    1 ≤ limit_if (ltb 0 debt) (min 20000 (left_until 0 (end -ℤ pos (660 + debt)) at_b)) →
    k ≤ limit_if (ltb 0 owed) (min 20000 (left_until 0 (due -ℤ pos (660 + owed)) at_a))
pay_left at_a at_b k zero debt due end e s l d h = s
pay_left at_a at_b k (suc n) zero due end e s l d h = absurd (omega arith)
pay_left at_a at_b k (suc n) (suc m) due end e s l d h =
    let first : ltb 0 (suc n) ≡ true = grind (arith, nat_tests) in
    let second : ltb 0 (suc m) ≡ true = grind (arith, nat_tests) in
    let later : end ≤ℤ due = d (omega arith) in
    let some = rw second at h in
    let least : 1 ≤ left_until 0 (end -ℤ pos (660 + suc m)) at_b = omega (arith, some) in
    let most = time_left 0 at_a at_b k (due -ℤ pos (660 + suc n)) (end -ℤ pos (660 + suc m)) e (omega (arith, ints)) least in
    rw first (omega (arith, most))

-- the first minute of an act at a later minute leaves room for Ready minutes until then, where no rest lies between
pub ready-room : (a b : Clock) (k : ℕ) (mark : Mark) → a.at + k ≤ b.at → k ≤ 20000 → a.off ≡ 0 → a.pause_day ≤ 45 →
    b.day_from ≤ℤ a.day_from → b.rest_from ≤ℤ a.rest_from → a.reduced ≤ b.reduced → LeavesLess a b →
    ((r : Rule) → 1 ≤ room b (run_ended b Plain) mark Plain r) →
    (r : Rule) → k ≤ room a (run_ended a Plain) Ready Plain r
ready-room a b k mark e small off pause day week few less more H3 =
    let start : (run_ended a Plain).day_from ≡ a.day_from = grind arith in
    let same : (run_ended b Plain).day_from ≡ b.day_from = grind arith in
    rw start (time_left 900 a.at b.at k a.day_from b.day_from e day (rw same at (more H3)))
ready-room a b k mark e small off pause day week few less more H4 =
    let start : (run_ended a Plain).reduced ≡ a.reduced = grind arith in
    let same : (run_ended b Plain).reduced ≡ b.reduced = grind arith in
    rw start (rests_left a.reduced b.reduced k few small (rw same at (more H4)))
ready-room a b k mark e small off pause day week few less more H5 = rw off small
ready-room a b k mark e small off pause day week few less more H6 =
    let start : (run_ended a Plain).rest_from ≡ a.rest_from = grind arith in
    let same : (run_ended b Plain).rest_from ≡ b.rest_from = grind arith in
    rw start (time_left 8640 a.at b.at k a.rest_from b.rest_from e week (rw same at (more H6)))
ready-room a b k mark e small off pause day week few less more H1 = small
ready-room a b k mark e small off pause day week few less more H2 = small
ready-room a b k mark e small off pause day week few less more H7 = small
ready-room a b k mark e small off pause day week few less more H8 = small
ready-room a b k mark e small off pause day week few less more H9 = small
ready-room a b k mark e small off pause day week few less more H10 = small
ready-room a b k mark e small off pause day week few less more H11 = small
ready-room a b k mark e small off pause day week few less more H12 =
    rw (plain-owed a, plain-due a)
    (pay_left a.at b.at k a.owed b.owed a.due b.due e small less.owed less.due (rw (plain-owed b, plain-due b) at (more H12)))

-- the rooms of clocks in which no run is open
settled_room : (x y : Clock) (mark : Mark) → x.off ≡ 0 → y.off ≡ 0 → x.pause_day ≤ 45 → y.pause_day ≤ 45 → DominatesAtMinute x y → (r : Rule) →
    room y y mark Plain r ≤ room x x mark Plain r
settled_room x y mark ox oy px py g r =
    let first : room y (run_ended y Plain) mark Plain r ≤ room x (run_ended x Plain) mark Plain r = room-as_good x y mark Plain (plain-long y) g r in
    let second : room y (run_ended y Plain) mark Plain r ≤ room x x mark Plain r =
    subst (λ (e : Clock). room y (run_ended y Plain) mark Plain r ≤ room x e mark Plain r) (settled x ox px) first in
    subst (λ (e : Clock). room y e mark Plain r ≤ room x x mark Plain r) (settled y oy py) second

run_left : (k l least : ℕ) → l ≤ k → 1 ≤ l → cond (leb 1 l && ltb l least) 0 20000 ≤ cond (leb 1 k && ltb k least) 0 20000
run_left k l least h m = grind (arith, nat_tests)

short_ended : (c : Clock) (kind : Kind) → is_rest kind ≡ true → 1 ≤ c.off → (run_ended c kind).pause_day ≤ 45
short_ended c kind r h = grind (arith, nat_tests)

-- a longer rest leaves as much room
pub rest-room : (a b : Clock) (mark : Mark) (kind : Kind) → is_rest kind ≡ true → short_here b kind ≡ false → b.off ≤ a.off → 45 ≤ b.off →
    DominatesAtMinute (record a { off = b.off }) b → (r : Rule) → room b (run_ended b kind) mark kind r ≤ room a (run_ended a kind) mark kind r
rest-room a b mark kind k enough l long g r = by_rule r
  where
    ended : (r : Rule) → room (run_ended b kind) (run_ended b kind) mark Plain r ≤ room (run_ended a kind) (run_ended a kind) mark Plain r
    ended r = settled_room (run_ended a kind) (run_ended b kind) mark refl refl
        (short_ended a kind k (omega arith)) (short_ended b kind k (omega arith)) (longer-rest a b kind k enough l long g) r

    by_rule : (r : Rule) → room b (run_ended b kind) mark kind r ≤ room a (run_ended a kind) mark kind r
    by_rule H5 =
        let even : Clock = record a { off = b.off } in
        let same : room b (run_ended b kind) mark kind H5 ≤ room even (run_ended even kind) mark kind H5 =
        room-as_good even b mark kind enough g H5 in
        omega (arith, same, run_left a.off b.off (least_rest kind a.prev_weekly a.owed) l (omega arith))
    by_rule H1 = ended H1
    by_rule H2 = ended H2
    by_rule H3 = ended H3
    by_rule H4 = ended H4
    by_rule H6 = ended H6
    by_rule H7 = ended H7
    by_rule H8 = ended H8
    by_rule H9 = ended H9
    by_rule H10 = ended H10
    by_rule H11 = ended H11
    by_rule H12 = ended H12

long_run : (kind : Kind) (off weekly owed : ℕ) → is_rest kind ≡ true → 1 ≤ off →
    1 ≤ cond (leb 1 off && ltb off (least_rest kind weekly owed)) 0 20000 → 45 ≤ off
long_run Plain off weekly owed k h l = cc
long_run Daily off weekly owed k h l = grind (arith, nat_tests)
long_run Weekly off weekly owed k h l = grind (arith, nat_tests)

-- a rest after which an act may begin has at least 45 minutes
pub long-rest : (c : Clock) (mark : Mark) (kind : Kind) → is_rest kind ≡ true → 1 ≤ c.off →
    ((r : Rule) → 1 ≤ room c (run_ended c kind) mark kind r) → 45 ≤ c.off
long-rest c mark kind k h more = long_run kind c.off c.prev_weekly c.owed k h (more H5)

-- and is not too short
pub enough-rest : (c : Clock) (mark : Mark) (kind : Kind) → ((r : Rule) → 1 ≤ room c (run_ended c kind) mark kind r) → short_here c kind ≡ false
enough-rest c mark kind more = by_test (short_here c kind) refl
  where
    by_test : (t : Bool) → short_here c kind ≡ t → short_here c kind ≡ false
    by_test true e = let some : 1 ≤ 0 = rw e at (more H5) in absurd (omega arith)
    by_test false e = e
