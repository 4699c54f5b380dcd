-- A longer rest is as good: what lets Ready minutes before a rest become Off minutes of it.
use Rattle.std.proofs.Common.{◌≡◌, ℕ, ◌≤◌, Bool, true, false, cond, refl, arith, pos, ℤ, ◌-ℤ◌, ◌≤ℤ◌, int_lt}
use Rattle.std.proofs.lemmas.Bool.Decides.{nat_tests}
use Rattle.std.proofs.lemmas.Int.{ints}
use Rattle.minute_line.specs.declared.marks.Kind.{Kind}
use Rattle.hours_rules.specs.declared.clocks.Clock.{Clock}
use Rattle.minute_line.specs.Marks.{is_rest}
use Rattle.hours_rules.specs.Order.{DominatesAtMinute}
use Rattle.hours_rules.specs.Machine.{run_ended, reduced_here, short_here}
use Rattle.hours_rules.proofs.Owing.{leaves-less}

offset_less : (at k l : ℕ) (x y : ℤ) → y ≤ℤ x → l ≤ k → int_lt (pos 780) ((pos at -ℤ x) -ℤ pos k) ≡ true →
    int_lt (pos 780) ((pos at -ℤ y) -ℤ pos l) ≡ true
offset_less at k l x y g m h = grind (arith, ints)

reduced_longer : (a b : Clock) (kind : Kind) → b.off ≤ a.off → 1 ≤ b.off → DominatesAtMinute (record a { off = b.off }) b →
    reduced_here a kind ≡ true → reduced_here b kind ≡ true
reduced_longer a b kind l m g h =
    let o = offset_less b.at a.off b.off a.day_from b.day_from g.day_from l in
    let e = g.at in let s = g.split in
    grind (arith, nat_tests, o)

one_if : (x y : Bool) → (x ≡ true → y ≡ true) → cond x 1 0 ≤ cond y 1 0
one_if x y h = grind (arith, h)

longer-day : (a b : Clock) (kind : Kind) → b.off ≤ a.off → 45 ≤ b.off → DominatesAtMinute (record a { off = b.off }) b →
    (run_ended b kind).day_from ≤ℤ (run_ended a kind).day_from
longer-day a b kind l m g = let e = g.at in grind (arith, ints)

longer-week : (a b : Clock) (kind : Kind) → b.off ≤ a.off → 45 ≤ b.off → DominatesAtMinute (record a { off = b.off }) b →
    (run_ended b kind).rest_from ≤ℤ (run_ended a kind).rest_from
longer-week a b kind l m g = let e = g.at in let f = g.rest_from in grind (arith, ints)

pub longer-rest : (a b : Clock) (kind : Kind) → is_rest kind ≡ true → short_here b kind ≡ false → b.off ≤ a.off → 45 ≤ b.off →
    DominatesAtMinute (record a { off = b.off }) b → DominatesAtMinute (run_ended a kind) (run_ended b kind)
longer-rest a b kind r long l m g = let less = leaves-less a b kind g.at l (λ h. omega arith) long (record { owed = g.owed; due = g.due }) in record {
  at = g.at;
  off = refl;
  day_from = longer-day a b kind l m g;
  rest_from = longer-week a b kind l m g;
  period = grind (arith, nat_tests);
  half = grind (arith, nat_tests);
  drive_day = grind (arith, nat_tests);
  long_days = let e = g.at in let d = g.drive_day in let f = g.long_days in grind (arith, nat_tests);
  split = grind (arith, nat_tests);
  reduced = let f = g.reduced in let one = one_if (reduced_here a kind) (reduced_here b kind) (reduced_longer a b kind l (omega arith) g) in grind (arith, nat_tests, one);
  prev_weekly = let f = g.prev_weekly in grind (arith, nat_tests);
  work_run = grind (arith, nat_tests);
  work_day = grind (arith, nat_tests);
  pause_day = grind (arith, nat_tests);
  drive_week = g.drive_week;
  work_week = g.work_week;
  prev_drive = g.prev_drive;
  work_before = g.work_before;
  owed = less.owed;
  due = less.due;
}
