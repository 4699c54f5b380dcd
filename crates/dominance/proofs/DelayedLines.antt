-- The same stay and act after two lines, the first of which waits some Ready minutes for the second.
use Rattle.std.proofs.Common.{◌≡◌, ℕ, zero, suc, ◌+◌, ◌≤◌, Bool, true, false, cond, ltb, [], ◌∷◌, ◌++◌, length, replicate, refl, ap, sym, ◌∙◌, arith, append_assoc, None, length-append}
use Rattle.minute_line.specs.declared.marks.Mark.{Mark}
use Rattle.minute_line.specs.declared.marks.Mark.TheVariants.{Ready, Off}
use Rattle.minute_line.specs.declared.marks.Kind.{Kind}
use Rattle.minute_line.specs.declared.marks.Kind.TheVariants.{Plain}
use Rattle.minute_line.specs.Marks.{is_duty}
use Rattle.minute_line.specs.Minutes.{Minute, Minutes, stretch}
use Rattle.hours_rules.specs.declared.clocks.Clock.{Clock}
use Rattle.hours_rules.specs.declared.clocks.Stay.{Stay}
use Rattle.hours_rules.specs.Rules.{Past, fault, fault_from, fault_at}
use Rattle.hours_rules.specs.Standing.{Stands}
use Rattle.hours_rules.specs.Going.{with_stay}
use Rattle.hours_rules.specs.Order.{Together, ClockDominates, IsEarlier, IsRested}
use Rattle.hours_rules.proofs.Faults.{stretch-add}
use Rattle.hours_rules.proofs.Simulate.{simulate_minutes, judged_join, judged_parts}
use Rattle.hours_rules.proofs.Waiting.{last_keeps_limits}

-- ---- minutes

-- a stay with so many more Ready minutes
abbrev pub waited : ℕ → Stay → Stay
waited k stay = record { ready = stay.ready + k; off = stay.off; kind = stay.kind }

-- the longer stay adds what the stay adds after its Ready minutes
with_stay-waited : (k : ℕ) (stay : Stay) (mark : Mark) (n : ℕ) (week : Minutes) →
    with_stay (waited k stay) mark n week ≡ with_stay stay mark n (stretch k Ready Plain week)
with_stay-waited k stay mark n week =
    ap (λ (x : Minutes). stretch n mark stay.kind (stretch stay.off Off Plain x)) (stretch-add stay.ready k Ready Plain week)

-- so many minutes of a mark
abbrev times_of : ℕ → Mark → Kind → Minutes
times_of n mark kind = replicate n (record { mark = mark; kind = kind })

-- a stay and an act add minutes that do not depend on the line
with_stay-added : (stay : Stay) (mark : Mark) (n : ℕ) (week : Minutes) →
    with_stay stay mark n week
    ≡ (times_of n mark stay.kind ++ (times_of stay.off Off Plain ++ times_of stay.ready Ready Plain)) ++ week
with_stay-added stay mark n week =
    let acted = times_of n mark stay.kind in
    let rested = times_of stay.off Off Plain in
    let idle = times_of stay.ready Ready Plain in
    ap (λ (x : Minutes). acted ++ x) (sym (append_assoc rested idle week)) ∙ sym (append_assoc acted (rested ++ idle) week)

-- ---- faults

none_here : (late : Bool) (n : ℕ) → fault_at n (cond late None None) ≡ None
none_here true n = refl
none_here false n = refl

-- where no fault is found from the start on, none is found from a later minute on
later_none : (o : ℕ) (p : Past) (w : Minutes) → fault p w ≡ None → fault_from o p w ≡ None
later_none o p [] h = refl
later_none o p (m ∷ w) h =
    let parts = judged_parts 0 p m w (omega arith) h in
    rw (later_none o p w parts.0, parts.1) (none_here (ltb (length w) o) (length w))

-- no fault in a line and none in what follows it is no fault at all
joined_none : (p : Past) (w more : Minutes) → fault p w ≡ None → fault_from (length w) p (more ++ w) ≡ None →
    fault p (more ++ w) ≡ None
joined_none p w [] h g = h
joined_none p w (m ∷ more) h g =
    let parts = judged_parts (length w) p m (more ++ w) (omega (arith, length-append more w)) g in
    judged_join 0 p m (more ++ w) (omega arith) (joined_none p w more h parts.0) parts.1

-- nor is one where the line waits
pub waited_none : (p : Past) (k : ℕ) (w : Minutes) → fault p w ≡ None → fault_from (length w) p (stretch k Ready Plain w) ≡ None →
    fault p (stretch k Ready Plain w) ≡ None
waited_none p k w h g = joined_none p w (times_of k Ready Plain) h g

-- no fault in a line is none in what it begins with
earlier_none : (p : Past) (w more : Minutes) → fault p (more ++ w) ≡ None → fault p w ≡ None
earlier_none p w [] h = h
earlier_none p w (m ∷ more) h = earlier_none p w more (judged_parts 0 p m (more ++ w) (omega arith) h).0

-- nor is there one before the stay
pub before_none : (past : Past) (stay : Stay) (mark : Mark) (n : ℕ) (week : Minutes) →
    fault past (with_stay stay mark n week) ≡ None → fault past week ≡ None
before_none past stay mark n week h =
    earlier_none past week (times_of n mark stay.kind ++ (times_of stay.off Off Plain ++ times_of stay.ready Ready Plain))
    (ap (fault past) (sym (with_stay-added stay mark n week)) ∙ h)

-- ---- the order lasts over a stay and an act

-- the minutes of a stay and an act that break no rule after the second line break none after the first
stay_lasts : (past : Past) (stay : Stay) (mark : Mark) (n : ℕ) (wa wb : Minutes) → Together past past wa wb →
    fault past wa ≡ None → fault past (with_stay stay mark n wb) ≡ None →
    Together past past (with_stay stay mark n wa) (with_stay stay mark n wb) × (fault past (with_stay stay mark n wa) ≡ None)
stay_lasts past stay mark n wa wb t ha hb =
    let more = times_of n mark stay.kind ++ (times_of stay.off Off Plain ++ times_of stay.ready Ready Plain) in
    let fa = with_stay-added stay mark n wa in
    let fb = with_stay-added stay mark n wb in
    let none : fault past (more ++ wb) ≡ None = ap (fault past) (sym fb) ∙ hb in
    let lasts = simulate_minutes past past wa wb more t (later_none (length wb) past (more ++ wb) none) in
    rw (fa, fb) (lasts.0, joined_none past wa more ha lasts.1)

-- where the first line waits k minutes for the second, the stay after it has these minutes too
pub delayed_lasts : (past : Past) (k : ℕ) (stay : Stay) (mark : Mark) (n : ℕ) (wa wb : Minutes) →
    Together past past (stretch k Ready Plain wa) wb → fault past (stretch k Ready Plain wa) ≡ None →
    fault past (with_stay stay mark n wb) ≡ None →
    Together past past (with_stay (waited k stay) mark n wa) (with_stay stay mark n wb)
    × (fault past (with_stay (waited k stay) mark n wa) ≡ None)
delayed_lasts past k stay mark n wa wb t ha hb =
    rw (with_stay-waited k stay mark n wa) (stay_lasts past stay mark n (stretch k Ready Plain wa) wb t ha hb)

-- ---- the first line catches up

-- a better clock is earlier, where both stand for lines of the same past that end on duty
pub earlier : (a b : Clock) (past : Past) (wa wb : Minutes) → Stands a past wa → Stands b past wb → ClockDominates a b →
    a.off ≡ 0 → b.off ≡ 0 → IsEarlier a b
earlier a b past wa wb sa sb h oa ob = record {
  at = h.at;
  off = (oa, ob);
  as_good = record {
    at = refl;
    off = oa ∙ sym ob;
    day_from = h.day_from;
    rest_from = h.rest_from;
    period = h.period;
    half = h.half;
    drive_day = h.drive_day;
    long_days = h.long_days;
    split = h.split;
    reduced = h.reduced;
    prev_weekly = h.prev_weekly;
    work_run = h.work_run;
    work_day = h.work_day;
    pause_day = h.pause_day;
    drive_week = h.drive_week;
    work_week = h.work_week;
    prev_drive = sa.prev_drive ∙ sym sb.prev_drive;
    work_before = sa.work_before ∙ sym sb.work_before;
    owed = h.owed;
    due = h.due;
  };
}

-- no run is open after a stay and an act of a minute
pub closed : (c : Clock) (past : Past) (stay : Stay) (mark : Mark) (n : ℕ) (week : Minutes) → is_duty mark ≡ true → 1 ≤ n →
    Stands c past (with_stay stay mark n week) → c.off ≡ 0
closed c past stay mark zero week d l s = absurd (omega arith)
closed c past stay mark (suc n) week d l s = let off = s.off in rw d at off

-- a clock keeps the limits of an on-duty minute after a stay and an act of a minute that break no rule
pub rested : (c : Clock) (past : Past) (stay : Stay) (mark : Mark) (n : ℕ) (week : Minutes) → is_duty mark ≡ true → 1 ≤ n →
    Stands c past (with_stay stay mark n week) → fault past (with_stay stay mark n week) ≡ None → IsRested c
rested c past stay mark zero week d l s h = absurd (omega arith)
rested c past stay mark (suc n) week d l s h =
    let before = with_stay stay mark n week in
    let m : Minute = record { mark = mark; kind = stay.kind } in
    last_keeps_limits c past m before s d (judged_parts 0 past m before (omega arith) h).1
