-- The order at an earlier minute: what lets Ready minutes be left out.
use Rattle.std.proofs.Common.{ℕ, ◌≤◌, cond, leb, refl, arith}
use Rattle.std.proofs.lemmas.Bool.Decides.{nat_tests}
use Rattle.std.proofs.lemmas.Int.{ints}
use Rattle.minute_line.specs.declared.marks.Mark.{Mark}
use Rattle.minute_line.specs.declared.marks.Kind.TheVariants.{Plain}
use Rattle.hours_rules.specs.declared.clocks.Clock.{Clock}
use Rattle.hours_rules.specs.declared.rules.Rule.{Rule}
use Rattle.hours_rules.specs.declared.rules.Rule.TheVariants.{H1, H2, H3, H4, H5, H6, H7, H8, H9, H10, H11, H12}
use Rattle.minute_line.specs.Marks.{is_drive}
use Rattle.hours_rules.specs.Order.{DominatesAtMinute}
use Rattle.hours_rules.specs.Machine.{run_ended, ticked, rested, room}
use Rattle.hours_rules.proofs.Owing.{plain-owed, plain-due, plain-long}
use Rattle.hours_rules.proofs.Better.{ended-as_good, ticked-as_good, rested-as_good, room-as_good, drive_left, left_sooner, debt_room-less}

-- as good, at an earlier or equal minute
pub record IsSooner (a b : Clock) : Type 0 where
  pub at : a.at ≤ b.at
  pub as_good : DominatesAtMinute (record a { at = b.at }) b

pub sooner-rested : (a b : Clock) (n : ℕ) → IsSooner a b → IsSooner (rested a n) (rested b n)
sooner-rested a b n s = record { at = omega (arith, s.at); as_good = rested-as_good (record a { at = b.at }) b n s.as_good }

pub sooner-ticked : (a b : Clock) (mark : Mark) (n : ℕ) → IsSooner a b → IsSooner (ticked a mark n) (ticked b mark n)
sooner-ticked a b mark n s = record { at = omega (arith, s.at); as_good = ticked-as_good (record a { at = b.at }) b mark n s.as_good }

-- a Plain run ends alike at an earlier minute
pub sooner-ended : (a b : Clock) → IsSooner a b → IsSooner (run_ended a Plain) (run_ended b Plain)
sooner-ended a b s =
    let g = ended-as_good (record a { at = b.at }) b Plain (plain-long b) s.as_good in record {
      at = s.at;
      as_good = record {
        at = refl;
        off = refl;
        day_from = let h = g.day_from in grind (arith, ints);
        rest_from = let h = g.rest_from in grind (arith, ints);
        period = g.period;
        half = g.half;
        drive_day = g.drive_day;
        long_days = let h = g.long_days in grind arith;
        split = g.split;
        reduced = let h = g.reduced in grind arith;
        prev_weekly = g.prev_weekly;
        work_run = g.work_run;
        work_day = g.work_day;
        pause_day = g.pause_day;
        drive_week = g.drive_week;
        work_week = g.work_week;
        prev_drive = g.prev_drive;
        work_before = g.work_before;
        owed = g.owed;
        due = λ h. rw (plain-due a, plain-due b) (s.as_good.due (rw (plain-owed a) at h));
      };
    }

rests_left : (x y : ℕ) → x ≤ y → cond (leb y 3) 20000 0 ≤ cond (leb x 3) 20000 0
rests_left x y h = grind (arith, nat_tests)

-- and the rules leave as much room
pub sooner-room : (a b : Clock) (mark : Mark) → IsSooner a b → (r : Rule) →
    room b (run_ended b Plain) mark Plain r ≤ room a (run_ended a Plain) mark Plain r
sooner-room a b mark s H3 = let t = sooner-ended a b s in left_sooner 900 a.at b.at _ _ s.at t.as_good.day_from
sooner-room a b mark s H6 = let t = sooner-ended a b s in left_sooner 8640 a.at b.at _ _ s.at t.as_good.rest_from
sooner-room a b mark s H12 = let t = sooner-ended a b s in
    debt_room-less (run_ended a Plain) (run_ended b Plain) s.at (record { owed = t.as_good.owed; due = t.as_good.due })
sooner-room a b mark s H1 = room-as_good (record a { at = b.at }) b mark Plain (plain-long b) s.as_good H1
sooner-room a b mark s H2 = let t = sooner-ended a b s in
    drive_left (is_drive mark) (run_ended a Plain).long_days (run_ended b Plain).long_days (run_ended a Plain).drive_day (run_ended b Plain).drive_day
    t.as_good.long_days t.as_good.drive_day
sooner-room a b mark s H4 = let t = sooner-ended a b s in rests_left (run_ended a Plain).reduced (run_ended b Plain).reduced t.as_good.reduced
sooner-room a b mark s H5 = room-as_good (record a { at = b.at }) b mark Plain (plain-long b) s.as_good H5
sooner-room a b mark s H7 = room-as_good (record a { at = b.at }) b mark Plain (plain-long b) s.as_good H7
sooner-room a b mark s H8 = room-as_good (record a { at = b.at }) b mark Plain (plain-long b) s.as_good H8
sooner-room a b mark s H9 = room-as_good (record a { at = b.at }) b mark Plain (plain-long b) s.as_good H9
sooner-room a b mark s H10 = room-as_good (record a { at = b.at }) b mark Plain (plain-long b) s.as_good H10
sooner-room a b mark s H11 = room-as_good (record a { at = b.at }) b mark Plain (plain-long b) s.as_good H11
