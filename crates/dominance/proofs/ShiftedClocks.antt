-- Clocks of lines in which no off run is open, and after Ready minutes.
use Rattle.std.proofs.Common.{◌≡◌, ℕ, zero, suc, ◌≤◌, ◌<◌, refl, sym, subst, arith}
use Rattle.minute_line.specs.declared.marks.Mark.TheVariants.{Ready}
use Rattle.minute_line.specs.declared.marks.Kind.TheVariants.{Plain}
use Rattle.minute_line.specs.Minutes.{Minutes, stretch}
use Rattle.hours_rules.specs.declared.clocks.Clock.{Clock}
use Rattle.hours_rules.specs.Rules.{Past}
use Rattle.hours_rules.specs.Standing.{Stands}
use Rattle.hours_rules.specs.Machine.{run_ended, ticked}
use Rattle.hours_rules.proofs.Blocks.{stands-block}
use Rattle.hours_rules.proofs.Owing.{plain-owed, plain-due}
use Rattle.hours_rules.proofs.Same.{clock_ext}

-- where no run is open, the end of a run changes nothing
pub settled : (c : Clock) → c.off ≡ 0 → c.pause_day ≤ 45 → run_ended c Plain ≡ c
settled c off small = clock_ext (run_ended c Plain) c (record {
  at = refl;
  off = sym off;
  day_from = grind arith;
  rest_from = grind arith;
  period = grind arith;
  half = grind arith;
  drive_day = grind arith;
  long_days = grind arith;
  split = grind arith;
  reduced = grind arith;
  prev_weekly = grind arith;
  work_run = grind arith;
  work_day = grind arith;
  pause_day = grind arith;
  drive_week = refl;
  work_week = refl;
  prev_drive = refl;
  work_before = refl;
  owed = plain-owed c;
  due = plain-due c;
})

pub short-pause : (c : Clock) (past : Past) (week : Minutes) → Stands c past week → c.pause_day ≤ 45
short-pause c past week s = omega (arith, s.pause_day)

-- Ready minutes after a line in which no run is open; where there is none, any run may be
pub stands-ready : (c : Clock) (past : Past) (n : ℕ) (week : Minutes) → (0 < n → c.off ≡ 0) → Stands c past week →
    Stands (ticked c Ready n) past (stretch n Ready Plain week)
stands-ready c past zero week h s = record {
  at = omega (arith, s.at);
  off = s.off;
  day_from = s.day_from;
  rest_from = s.rest_from;
  period = omega (arith, s.period);
  half = s.half;
  drive_day = omega (arith, s.drive_day);
  long_days = s.long_days;
  split = s.split;
  reduced = s.reduced;
  prev_weekly = s.prev_weekly;
  work_run = omega (arith, s.work_run);
  work_day = omega (arith, s.work_day);
  pause_day = s.pause_day;
  drive_week = omega (arith, s.drive_week);
  work_week = omega (arith, s.work_week);
  prev_drive = s.prev_drive;
  work_before = s.work_before;
  owed = s.owed;
  due = s.due;
}
stands-ready c past (suc n) week h s =
    subst (λ (x : Clock). Stands (ticked x Ready (suc n)) past (stretch (suc n) Ready Plain week))
    (settled c (h (omega arith)) (short-pause c past week s)) (stands-block c past n Ready Plain week refl s)
