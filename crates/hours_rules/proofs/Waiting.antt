-- Ready minutes bring the earlier line to the minute of the later one.
use Rattle.std.proofs.Common.{◌≡◌, ℕ, ◌+◌, ◌≤◌, Bool, true, not, ◌||◌, ◌∷◌, ◌<◌, eqb, leb, ltb, min, int_le, length, refl, sym, arith, suc, zero, ◌-◌, ◌∙◌, None, pos, ℤ, ◌-ℤ◌, ◌≤ℤ◌, le-leb}
use Rattle.std.proofs.lemmas.Int.{ints}
use Rattle.minute_line.specs.declared.marks.Mark.TheVariants.{Ready}
use Rattle.minute_line.specs.declared.marks.Kind.TheVariants.{Plain}
use Rattle.minute_line.specs.Minutes.{Minute, Minutes, stretch}
use Rattle.hours_rules.specs.declared.clocks.Clock.{Clock}
use Rattle.hours_rules.specs.declared.rules.Rule.{Rule}
use Rattle.hours_rules.specs.declared.rules.Rule.TheVariants.{H1, H2, H3, H4, H5, H6, H7, H8, H9, H10, H11, H12}
use Rattle.std.proofs.lemmas.Bool.Decides.{nat_tests}
use Rattle.minute_line.specs.Marks.{is_duty}
use Rattle.hours_rules.specs.Counts.{work_day_of, since_weekly, times, ends_reduced}
use Rattle.hours_rules.specs.Rules.{Past, fault_from, failing, whole, debt_of}
use Rattle.hours_rules.specs.Standing.{Stands}
use Rattle.hours_rules.specs.Order.{DominatesAtMinute, Together, IsEarlier, IsRested, ReadyCatchesUp, LastKeepsLimits}
use Rattle.hours_rules.specs.Machine.{run_ended, ticked, room, left_until, limit_if}
use Rattle.hours_rules.proofs.Owing.{plain-owed, plain-due}
use Rattle.hours_rules.proofs.Faults.{no_fault-within, allows-clock, block-stands, none_judged, all-hold}

time_left : (limit at_a at_b k : ℕ) (x y : ℤ) → at_a + k ≡ at_b → y ≤ℤ x → (pos at_b -ℤ y) ≤ℤ pos limit → k ≤ left_until limit x at_a
time_left limit at_a at_b k x y e h l = grind (arith, ints)

-- a debt that can still be paid in time after the later clock leaves the minutes up to it
time_to_pay : (at_a at_b k owed debt : ℕ) (due end : ℤ) → at_a + k ≡ at_b → k ≤ 20000 → owed ≤ debt → (0 < owed → end ≤ℤ due) →
    (0 < debt → pos (at_b + 660 + debt) ≤ℤ end) → k ≤ limit_if (ltb 0 owed) (min 20000 (left_until 0 (due -ℤ pos (660 + owed)) at_a))
time_to_pay at_a at_b k zero debt due end e s l d t = s
time_to_pay at_a at_b k (suc n) debt due end e s l d t =
    let late : end ≤ℤ due = d (omega arith) in
    let enough : pos (at_b + 660 + debt) ≤ℤ end = t (omega arith) in
    let less : k ≤ left_until 0 (due -ℤ pos (660 + suc n)) at_a = grind (arith, ints) in
    let some : ltb 0 (suc n) ≡ true = grind (arith, nat_tests) in rw some (omega (arith, less))

waiting_room : (a b : Clock) (k : ℕ) → IsEarlier a b → IsRested b → a.at + k ≡ b.at → k ≤ 20000 → (r : Rule) →
    k ≤ room a (run_ended a Plain) Ready Plain r
waiting_room a b k g t e s H1 = omega arith
waiting_room a b k g t e s H2 = omega arith
waiting_room a b k g t e s H3 = let off = g.off.0 in let start : (run_ended a Plain).day_from ≡ a.day_from = grind arith in
    rw start (time_left 900 a.at b.at k a.day_from b.day_from e g.as_good.day_from t.day)
waiting_room a b k g t e s H4 = let off = g.off.0 in let less = g.as_good.reduced in let few = t.reduced in
    let n : (run_ended a Plain).reduced ≤ 3 = grind arith in let yes : leb (run_ended a Plain).reduced 3 ≡ true = le-leb _ _ n in rw yes s
waiting_room a b k g t e s H5 = let off = g.off.0 in rw off s
waiting_room a b k g t e s H6 = let off = g.off.0 in let start : (run_ended a Plain).rest_from ≡ a.rest_from = grind arith in
    rw start (time_left 8640 a.at b.at k a.rest_from b.rest_from e g.as_good.rest_from t.week)
waiting_room a b k g t e s H7 = omega arith
waiting_room a b k g t e s H8 = omega arith
waiting_room a b k g t e s H9 = omega arith
waiting_room a b k g t e s H10 = omega arith
waiting_room a b k g t e s H11 = omega arith
waiting_room a b k g t e s H12 =
    rw (plain-owed a, plain-due a) (time_to_pay a.at b.at k a.owed b.owed a.due b.due e s g.as_good.owed g.as_good.due t.debt)

waited-as_good : (a b : Clock) (k : ℕ) → IsEarlier a b → a.at + k ≡ b.at → b.pause_day ≤ 45 → DominatesAtMinute (ticked (run_ended a Plain) Ready k) b
waited-as_good a b k g e small =
    let off = g.off in let h = g.as_good in record {
      at = e;
      off = sym off.1;
      day_from = grind (arith, h.day_from);
      rest_from = grind (arith, h.rest_from);
      period = grind (arith, h.period);
      half = grind (arith, h.half);
      drive_day = grind (arith, h.drive_day);
      long_days = grind (arith, h.long_days);
      split = grind (arith, h.split);
      reduced = grind (arith, h.reduced);
      prev_weekly = grind (arith, h.prev_weekly);
      work_run = grind (arith, h.work_run);
      work_day = grind (arith, h.work_day);
      pause_day = let least = h.pause_day in grind arith;
      drive_week = let w = h.drive_week in omega arith;
      work_week = let w = h.work_week in omega arith;
      prev_drive = h.prev_drive;
      work_before = h.work_before;
      owed = rw (plain-owed a) h.owed;
      due = λ some. rw (plain-due a) (h.due (rw (plain-owed a) at some));
    }

pub waiting : (a b : Clock) (pa pb : Past) (wa wb : Minutes) (k : ℕ) → Stands a pa wa → Stands b pb wb → IsEarlier a b → IsRested b →
    a.at + suc k ≡ b.at → suc k ≤ 20000 →
    Together pa pb (stretch (suc k) Ready Plain wa) wb × (fault_from (length wa) pa (stretch (suc k) Ready Plain wa) ≡ None)
waiting a b pa pb wa wb k sa sb g t e s = (
  record {
    first = ticked (run_ended a Plain) Ready (suc k);
    second = b;
    as_good = waited-as_good a b (suc k) g e (omega (arith, sb.pause_day));
    first_stands = block-stands a pa (suc k) Ready Plain wa refl (omega arith) sa;
    second_stands = sb;
  },
  no_fault-within (length wa) pa (suc k) Ready Plain wa _ (allows-clock a pa Ready Plain wa refl sa)
      (none_judged (length wa) pa wa (omega arith)) (waiting_room a b (suc k) g t e s),
)

within_limit : (duty : Bool) (n limit : ℕ) → duty ≡ true → (not duty || leb n limit) ≡ true → n ≤ limit
within_limit duty n limit d h = grind (arith, nat_tests)

-- a debt can be paid in time after a minute at which the rule holds
debt_limit : (duty : Bool) (n at debt owed : ℕ) (end due : ℤ) → duty ≡ true → at ≡ n → owed ≡ debt → due ≡ end →
    (not duty || (eqb debt 0 || int_le (pos (n + 660 + debt)) end)) ≡ true → 0 < owed → pos (at + 660 + owed) ≤ℤ due
debt_limit duty n at debt owed end due d e f g h some = by_owed debt f (rw d at h)
  where
    by_owed : (k : ℕ) → owed ≡ k → (eqb k 0 || int_le (pos (n + 660 + k)) end) ≡ true → pos (at + 660 + owed) ≤ℤ due
    by_owed zero o t = absurd (omega arith)
    by_owed (suc k) o t = let fits : int_le (pos (n + 660 + suc k)) end ≡ true = grind (arith, nat_tests) in rw (e, o, g) (grind (arith, ints))

-- the limits at a clock whose last minute was on duty and broke no rule
pub rested-last : (b : Clock) (p : Past) (m : Minute) (w : Minutes) → is_duty m.mark ≡ true → failing p m w ≡ None →
    Stands b p (m ∷ w) → IsRested b
rested-last b p m w d h s = record {
  day = let l = within_limit (is_duty m.mark) (length (work_day_of (whole p (m ∷ w)))) 900 d (all-hold p m w h H3) in
      omega (arith, ints, s.at, s.day_from, l);
  week = let l = within_limit (is_duty m.mark) (length (since_weekly (whole p (m ∷ w)))) 8640 d (all-hold p m w h H6) in
      omega (arith, ints, s.at, s.rest_from, l);
  reduced = let l = within_limit (is_duty m.mark) (times ends_reduced (since_weekly (whole p (m ∷ w)))) 3 d (all-hold p m w h H4) in
      omega (arith, s.reduced, l);
  debt = debt_limit (is_duty m.mark) (length (m ∷ w)) b.at (debt_of p (m ∷ w)).owed b.owed (debt_of p (m ∷ w)).due b.due d s.at s.owed s.due
      (all-hold p m w h H12);
}

-- the same from any earlier or equal minute
pub ready_catches_up : ReadyCatchesUp
ready_catches_up a b pa pb wa wb sa sb g t small = by_wait (b.at - a.at) refl
  where
    by_wait : (k : ℕ) → b.at - a.at ≡ k →
        Together pa pb (stretch k Ready Plain wa) wb × (fault_from (length wa) pa (stretch k Ready Plain wa) ≡ None)
    by_wait zero e = (
      record {
        first = a;
        second = b;
        as_good = let h = g.as_good in record {
          at = omega (arith, g.at);
          off = g.off.0 ∙ sym g.off.1;
          day_from = h.day_from;
          rest_from = h.rest_from;
          period = h.period;
          half = h.half;
          drive_day = h.drive_day;
          long_days = h.long_days;
          split = h.split;
          reduced = h.reduced;
          prev_weekly = h.prev_weekly;
          work_run = h.work_run;
          work_day = h.work_day;
          pause_day = h.pause_day;
          drive_week = h.drive_week;
          work_week = h.work_week;
          prev_drive = h.prev_drive;
          work_before = h.work_before;
          owed = h.owed;
          due = h.due;
        };
        first_stands = sa;
        second_stands = sb;
      },
      none_judged (length wa) pa wa (omega arith),
    )
    by_wait (suc k) e = waiting a b pa pb wa wb k sa sb g t (omega (arith, g.at)) (omega (arith, g.at))

pub last_keeps_limits : LastKeepsLimits
last_keeps_limits b p m w s d h = rested-last b p m w d h s
