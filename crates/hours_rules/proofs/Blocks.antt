-- What a block of minutes of one mark does, and where the first fault in it lies.
use Rattle.std.proofs.Common.{◌≡◌, ℕ, true, refl, arith, suc, zero}
use Rattle.minute_line.specs.declared.marks.Mark.{Mark}
use Rattle.minute_line.specs.declared.marks.Mark.TheVariants.{Off}
use Rattle.minute_line.specs.declared.marks.Kind.{Kind}
use Rattle.minute_line.specs.Minutes.{Minutes, stretch}
use Rattle.hours_rules.specs.declared.clocks.Clock.{Clock}
use Rattle.minute_line.specs.Marks.{is_duty}
use Rattle.hours_rules.specs.Rules.{Past}
use Rattle.hours_rules.specs.Standing.{Stands}
use Rattle.hours_rules.specs.Machine.{run_ended, ticked, rested}
use Rattle.hours_rules.proofs.Steps.{stands-duty, stands-off}

pub stands-off_block : (c : Clock) (past : Past) (n : ℕ) (kind : Kind) (week : Minutes) →
    Stands c past week → Stands (rested c n) past (stretch n Off kind week)
stands-off_block c past zero kind week s = record {
  at = grind arith;
  off = grind arith;
  day_from = s.day_from;
  rest_from = s.rest_from;
  period = s.period;
  half = s.half;
  drive_day = s.drive_day;
  long_days = s.long_days;
  split = s.split;
  reduced = s.reduced;
  prev_weekly = s.prev_weekly;
  work_run = s.work_run;
  work_day = s.work_day;
  pause_day = s.pause_day;
  drive_week = s.drive_week;
  work_week = s.work_week;
  prev_drive = s.prev_drive;
  work_before = s.work_before;
  owed = s.owed;
  due = s.due;
}
stands-off_block c past (suc n) kind week s =
    let t = stands-off (rested c n) past (record { mark = Off; kind = kind }) (stretch n Off kind week) refl
    (stands-off_block c past n kind week s) in record {
      at = grind (arith, t.at);
      off = grind (arith, t.off);
      day_from = t.day_from;
      rest_from = t.rest_from;
      period = t.period;
      half = t.half;
      drive_day = t.drive_day;
      long_days = t.long_days;
      split = t.split;
      reduced = t.reduced;
      prev_weekly = t.prev_weekly;
      work_run = t.work_run;
      work_day = t.work_day;
      pause_day = t.pause_day;
      drive_week = t.drive_week;
      work_week = t.work_week;
      prev_drive = t.prev_drive;
      work_before = t.work_before;
      owed = t.owed;
      due = t.due;
    }

pub stands-block : (c : Clock) (past : Past) (n : ℕ) (mark : Mark) (kind : Kind) (week : Minutes) → is_duty mark ≡ true →
    Stands c past week → Stands (ticked (run_ended c kind) mark (suc n)) past (stretch (suc n) mark kind week)
stands-block c past zero mark kind week d s = stands-duty c past (record { mark = mark; kind = kind }) week d s
stands-block c past (suc n) mark kind week d s =
    let t = stands-duty (ticked (run_ended c kind) mark (suc n)) past (record { mark = mark; kind = kind })
    (stretch (suc n) mark kind week) d (stands-block c past n mark kind week d s) in record {
      at = grind (arith, t.at);
      off = grind (arith, t.off);
      day_from = t.day_from;
      rest_from = t.rest_from;
      period = grind (arith, t.period);
      half = t.half;
      drive_day = grind (arith, t.drive_day);
      long_days = grind (arith, t.long_days);
      split = t.split;
      reduced = grind (arith, t.reduced);
      prev_weekly = t.prev_weekly;
      work_run = grind (arith, t.work_run);
      work_day = grind (arith, t.work_day);
      pause_day = grind (arith, t.pause_day);
      drive_week = grind (arith, t.drive_week);
      work_week = grind (arith, t.work_week);
      prev_drive = t.prev_drive;
      work_before = t.work_before;
      owed = t.owed;
      due = t.due;
    }
