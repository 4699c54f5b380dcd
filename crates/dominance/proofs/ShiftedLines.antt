-- A stay and an act after a better line: a Plain stay with other Ready minutes, and a rest that begins at once.
use Rattle.std.proofs.Common.{◌≡◌, ℕ, zero, suc, ◌+◌, ◌≤◌, ◌<◌, ◌≤ℤ◌, true, refl, ◌∙◌, arith, None}
use Rattle.minute_line.specs.declared.marks.Mark.{Mark}
use Rattle.minute_line.specs.declared.marks.Mark.TheVariants.{Ready, Off}
use Rattle.minute_line.specs.declared.marks.Kind.{Kind}
use Rattle.minute_line.specs.declared.marks.Kind.TheVariants.{Plain}
use Rattle.minute_line.specs.Minutes.{Minutes, stretch}
use Rattle.minute_line.specs.Marks.{is_duty, is_rest}
use Rattle.hours_rules.specs.declared.clocks.Clock.{Clock}
use Rattle.hours_rules.specs.declared.rules.Rule.{Rule}
use Rattle.hours_rules.specs.Rules.{Past, fault_from}
use Rattle.hours_rules.specs.Standing.{Stands}
use Rattle.hours_rules.specs.Order.{DominatesAtMinute}
use Rattle.hours_rules.specs.Machine.{run_ended, ticked, rested, room}
use Rattle.hours_rules.proofs.Blocks.{stands-off_block}
use Rattle.hours_rules.proofs.Faults.{no_fault-within, allows-clock, block-stands, fault-off}
use Rattle.hours_rules.proofs.Better.{ticked-as_good}
use Rattle.hours_rules.proofs.Longer.{longer-rest}
use Rattle.hours_rules.proofs.Owing.{LeavesLess}
use Rattle.hours_rules.proofs.Sooner.{IsSooner, sooner-rested, sooner-ticked, sooner-ended, sooner-room}
use Rattle.dominance.proofs.ShiftedClocks.{stands-ready, short-pause}
use Rattle.dominance.proofs.ShiftedRooms.{room-kept, ready-room, rest-room, long-rest, enough-rest}

-- the first line is as good as the second at an earlier or equal minute, with an open run of so many minutes in both, and
-- has no fault
pub record GoesSooner (past : Past) (run : ℕ) (first_line second_line : Minutes) : Type 0 where
  pub first : Clock
  pub second : Clock
  pub first_stands : Stands first past first_line
  pub second_stands : Stands second past second_line
  pub sooner : IsSooner first second
  pub off : second.off ≡ run
  pub none : fault_from 0 past first_line ≡ None

sooner-ready : (a b : Clock) (k n : ℕ) → IsSooner a b → a.at + k ≤ b.at + n → IsSooner (ticked a Ready k) (ticked b Ready n)
sooner-ready a b k n s e = record { at = e; as_good = ticked-as_good (record a { at = b.at }) b Ready n s.as_good }

none-ready : (past : Past) (k : ℕ) (week : Minutes) (a b : Clock) (mark : Mark) → Stands a past week → fault_from 0 past week ≡ None →
    (0 < k → a.off ≡ 0) → a.at + k ≤ b.at → k ≤ 20000 →
    b.day_from ≤ℤ a.day_from → b.rest_from ≤ℤ a.rest_from → a.reduced ≤ b.reduced → LeavesLess a b →
    ((r : Rule) → 1 ≤ room b (run_ended b Plain) mark Plain r) →
    fault_from 0 past (stretch k Ready Plain week) ≡ None
none-ready past zero week a b mark s none off e small day rest few less more = none
none-ready past (suc k) week a b mark s none off e small day rest few less more =
    no_fault-within 0 past (suc k) Ready Plain week (room a (run_ended a Plain) Ready Plain) (allows-clock a past Ready Plain week refl s)
    none (ready-room a b (suc k) mark e small (off (omega arith)) (short-pause a past week s) day rest few less more)

-- a Plain stay with so many Ready minutes that its act starts no later
pub sooner-plain : (past : Past) (wa wb : Minutes) (a b : Clock) (k r off n : ℕ) (mark : Mark) → is_duty mark ≡ true → 1 ≤ n → n ≤ 20000 →
    Stands a past wa → Stands b past wb → IsSooner a b → (0 < r → b.off ≡ 0) → (0 < k → b.off ≡ 0) → a.at + k ≤ b.at + r → k ≤ 20000 →
    fault_from 0 past wa ≡ None → fault_from 0 past (stretch n mark Plain (stretch off Off Plain (stretch r Ready Plain wb))) ≡ None →
    GoesSooner past 0 (stretch n mark Plain (stretch off Off Plain (stretch k Ready Plain wa)))
    (stretch n mark Plain (stretch off Off Plain (stretch r Ready Plain wb)))
sooner-plain past wa wb a b k r off n mark d some small sa sb s r_off k_off e few none h =
    let a2 : Clock = rested (ticked a Ready k) off in
    let b2 : Clock = rested (ticked b Ready r) off in
    let la : Minutes = stretch off Off Plain (stretch k Ready Plain wa) in
    let lb : Minutes = stretch off Off Plain (stretch r Ready Plain wb) in
    let same : a.off ≡ b.off = s.as_good.off in
    let sa2 : Stands a2 past la =
    stands-off_block (ticked a Ready k) past off Plain (stretch k Ready Plain wa) (stands-ready a past k wa (λ l. same ∙ k_off l) sa) in
    let sb2 : Stands b2 past lb =
    stands-off_block (ticked b Ready r) past off Plain (stretch r Ready Plain wb) (stands-ready b past r wb r_off sb) in
    let s2 : IsSooner a2 b2 = sooner-rested (ticked a Ready k) (ticked b Ready r) off (sooner-ready a b k r s e) in
    let room_b : (rule : Rule) → n ≤ room b2 (run_ended b2 Plain) mark Plain rule = room-kept b2 past n mark Plain lb d small sb2 h in
    let waited : fault_from 0 past (stretch k Ready Plain wa) ≡ None =
    none-ready past k wa a b2 mark sa none (λ l. same ∙ k_off l) (omega arith) few
    s.as_good.day_from s.as_good.rest_from s.as_good.reduced (record { owed = s.as_good.owed; due = s.as_good.due }) (λ rule. omega (arith, room_b rule)) in record {
      first = ticked (run_ended a2 Plain) mark n;
      second = ticked (run_ended b2 Plain) mark n;
      first_stands = block-stands a2 past n mark Plain la d some sa2;
      second_stands = block-stands b2 past n mark Plain lb d some sb2;
      sooner = sooner-ticked (run_ended a2 Plain) (run_ended b2 Plain) mark n (sooner-ended a2 b2 s2);
      off = refl;
      none = no_fault-within 0 past n mark Plain la (room a2 (run_ended a2 Plain) mark Plain) (allows-clock a2 past mark Plain la d sa2)
          (fault-off 0 past off Plain (stretch k Ready Plain wa) ∙ waited)
          (λ rule. omega (arith, room_b rule, sooner-room a2 b2 mark s2 rule));
    }

-- a clock at the same minute is sooner
pub sooner-same : (a b : Clock) → DominatesAtMinute a b → IsSooner a b
sooner-same a b g = record {
  at = omega (arith, g.at);
  as_good = record {
    at = refl;
    off = g.off;
    day_from = g.day_from;
    rest_from = g.rest_from;
    period = g.period;
    half = g.half;
    drive_day = g.drive_day;
    long_days = g.long_days;
    split = g.split;
    reduced = g.reduced;
    prev_weekly = g.prev_weekly;
    work_run = g.work_run;
    work_day = g.work_day;
    pause_day = g.pause_day;
    drive_week = g.drive_week;
    work_week = g.work_week;
    prev_drive = g.prev_drive;
    work_before = g.work_before;
    owed = g.owed;
    due = g.due;
  };
}

-- Off minutes in place of Ready minutes: the same but for the open run
rested-for_ready : (a b : Clock) (k r off : ℕ) → IsSooner a b → a.at + k ≡ b.at + r + off →
    DominatesAtMinute (record (rested a k) { off = b.off + off }) (rested (ticked b Ready r) off)
rested-for_ready a b k r off s e = let g = s.as_good in record {
  at = e;
  off = refl;
  day_from = g.day_from;
  rest_from = g.rest_from;
  period = omega (arith, g.period);
  half = g.half;
  drive_day = omega (arith, g.drive_day);
  long_days = g.long_days;
  split = g.split;
  reduced = g.reduced;
  prev_weekly = g.prev_weekly;
  work_run = omega (arith, g.work_run);
  work_day = omega (arith, g.work_day);
  pause_day = g.pause_day;
  drive_week = omega (arith, g.drive_week);
  work_week = omega (arith, g.work_week);
  prev_drive = g.prev_drive;
  work_before = g.work_before;
  owed = g.owed;
  due = g.due;
}

-- a rest that begins at once, and after which the act starts at the same minute
pub sooner-rest : (past : Past) (wa wb : Minutes) (a b : Clock) (k r off n : ℕ) (mark : Mark) (kind : Kind) → is_duty mark ≡ true →
    is_rest kind ≡ true → 1 ≤ n → n ≤ 20000 → Stands a past wa → Stands b past wb → IsSooner a b → (0 < r → b.off ≡ 0) →
    a.at + k ≡ b.at + r + off → 1 ≤ b.off + off →
    fault_from 0 past wa ≡ None → fault_from 0 past (stretch n mark kind (stretch off Off Plain (stretch r Ready Plain wb))) ≡ None →
    GoesSooner past 0 (stretch n mark kind (stretch k Off Plain wa))
    (stretch n mark kind (stretch off Off Plain (stretch r Ready Plain wb)))
sooner-rest past wa wb a b k r off n mark kind d rest some small sa sb s r_off e run none h =
    let a2 : Clock = rested a k in
    let b2 : Clock = rested (ticked b Ready r) off in
    let la : Minutes = stretch k Off Plain wa in
    let lb : Minutes = stretch off Off Plain (stretch r Ready Plain wb) in
    let sa2 : Stands a2 past la = stands-off_block a past k Plain wa sa in
    let sb2 : Stands b2 past lb =
    stands-off_block (ticked b Ready r) past off Plain (stretch r Ready Plain wb) (stands-ready b past r wb r_off sb) in
    let room_b : (rule : Rule) → n ≤ room b2 (run_ended b2 kind) mark kind rule = room-kept b2 past n mark kind lb d small sb2 h in
    let long : 45 ≤ b2.off = long-rest b2 mark kind rest run (λ rule. omega (arith, room_b rule)) in
    let enough = enough-rest b2 mark kind (λ rule. omega (arith, room_b rule)) in
    let more : b2.off ≤ a2.off = omega (arith, s.at, s.as_good.off) in
    let g : DominatesAtMinute (record a2 { off = b2.off }) b2 = rested-for_ready a b k r off s e in record {
      first = ticked (run_ended a2 kind) mark n;
      second = ticked (run_ended b2 kind) mark n;
      first_stands = block-stands a2 past n mark kind la d some sa2;
      second_stands = block-stands b2 past n mark kind lb d some sb2;
      sooner = sooner-ticked (run_ended a2 kind) (run_ended b2 kind) mark n
          (sooner-same (run_ended a2 kind) (run_ended b2 kind) (longer-rest a2 b2 kind rest enough more long g));
      off = refl;
      none = no_fault-within 0 past n mark kind la (room a2 (run_ended a2 kind) mark kind) (allows-clock a2 past mark kind la d sa2)
          (fault-off 0 past k Plain wa ∙ none)
          (λ rule. omega (arith, room_b rule, rest-room a2 b2 mark kind rest enough more long g rule));
    }
