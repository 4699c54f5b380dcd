-- Two clocks with an open run of two weeks or more, equal but for its length.
use Rattle.std.proofs.Common.{◌≡◌, ℕ, ◌+◌, ◌≤◌, ◌<◌, ◌≤ℤ◌, true, false, leb, ltb, refl, sym, ◌∙◌, arith, pos, ℤ, ◌-ℤ◌, min, le-leb}
use Rattle.std.proofs.lemmas.Bool.{le-ltb}
use Rattle.std.proofs.lemmas.Bool.Decides.{nat_tests}
use Rattle.std.proofs.lemmas.Int.{ints}
use Rattle.minute_line.specs.declared.marks.Mark.{Mark}
use Rattle.minute_line.specs.declared.marks.Kind.{Kind}
use Rattle.minute_line.specs.declared.marks.Kind.TheVariants.{Plain, Daily, Weekly}
use Rattle.minute_line.specs.Minutes.{Minutes}
use Rattle.hours_rules.specs.declared.clocks.Clock.{Clock}
use Rattle.hours_rules.specs.declared.rules.Rule.{Rule}
use Rattle.hours_rules.specs.declared.rules.Rule.TheVariants.{H1, H2, H3, H4, H5, H6, H7, H8, H9, H10, H11, H12}
use Rattle.hours_rules.specs.Counts.{ends_rest, ends_weekly, work_day_of, since_weekly}
use Rattle.hours_rules.specs.Rules.{Past, whole, least_rest}
use Rattle.hours_rules.specs.Standing.{Stands}
use Rattle.hours_rules.specs.Machine.{run_ended, rested, room, left_until, paying_here, owing_here}
use Rattle.hours_rules.proofs.Same.{clock_ext}
use Rattle.driver_history.proofs.Alike.{DueAlike, dues-ended, dues-rested, debt-room-same, Alike}
use Rattle.hours_rules.proofs.Spans.{open_run-since, open_run-length, duty-ends_rest, duty-ends_weekly}

-- both have an open run of two weeks or more before the week, and are equal but for its length
pub record Held (a b : Clock) : Type 0 where
  pub at : a.at ≡ b.at
  pub a_off : 20160 + a.at ≤ a.off
  pub b_off : 20160 + b.at ≤ b.off
  pub day : ((pos a.at -ℤ a.day_from) -ℤ pos a.off) ≡ ((pos b.at -ℤ b.day_from) -ℤ pos b.off)
  pub drive_day : a.drive_day ≡ b.drive_day
  pub long_days : a.long_days ≡ b.long_days
  pub split : a.split ≡ b.split
  pub reduced : a.reduced ≡ b.reduced
  pub prev_weekly : a.prev_weekly ≡ b.prev_weekly
  pub work_day : a.work_day ≡ b.work_day
  pub drive_week : a.drive_week ≡ b.drive_week
  pub work_week : a.work_week ≡ b.work_week
  pub prev_drive : a.prev_drive ≡ b.prev_drive
  pub work_before : a.work_before ≡ b.work_before
  pub debt : DueAlike a b
  pub few : a.owed ≤ 1260

-- the open run lies within its work day and within the week since the last weekly rest
pub record RunInside (c : Clock) : Type 0 where
  pub day : pos c.off ≤ℤ (pos c.at -ℤ c.day_from)
  pub since : pos c.off ≤ℤ (pos c.at -ℤ c.rest_from)

pub run-inside : (c : Clock) (past : Past) (week : Minutes) → Stands c past week → RunInside c
run-inside c past week s = record {
  day = let l = open_run-length (work_day_of (whole past week)) in let e = open_run-since ends_rest duty-ends_rest (whole past week) in omega (arith, ints, s.at, s.off, s.day_from, l, e);
  since = let l = open_run-length (since_weekly (whole past week)) in let e = open_run-since ends_weekly duty-ends_weekly (whole past week) in omega (arith, ints, s.at, s.off, s.rest_from, l, e);
}

-- no room past a limit
pub none_left : (limit at off : ℕ) (from : ℤ) → pos off ≤ℤ (pos at -ℤ from) → limit < off → left_until limit from at ≡ 0
none_left limit at off from h l = grind (arith, ints)

least-most : (kind : Kind) (weekly owed : ℕ) → least_rest kind weekly owed ≤ 2700
least-most Plain weekly owed = omega arith
least-most Daily weekly owed = omega arith
least-most Weekly weekly owed = grind (arith, nat_tests)

-- the tests of a long run
pub record Long (c : Clock) (kind : Kind) : Type 0 where
  pub one : leb 1 c.off ≡ true
  pub pause : leb 15 c.off ≡ true
  pub break : leb 45 c.off ≡ true
  pub before : ltb c.off c.at ≡ false
  pub long : ltb c.off 660 ≡ false
  pub least : ltb c.off (least_rest kind c.prev_weekly c.owed) ≡ false
  pub daily : leb (660 + c.owed) c.off ≡ true
  pub weekly : leb (2700 + c.owed) c.off ≡ true
  pub regular : ltb c.off 2700 ≡ false
  pub full : min 45 (c.off + c.pause_day) ≡ 45

pub long-run : (c : Clock) (kind : Kind) → 20160 + c.at ≤ c.off → c.owed ≤ 1260 → Long c kind
long-run c kind h few = record {
  one = le-leb 1 c.off (omega arith);
  pause = le-leb 15 c.off (omega arith);
  break = le-leb 45 c.off (omega arith);
  before = le-ltb c.off c.at (omega arith);
  long = le-ltb c.off 660 (omega arith);
  least = le-ltb c.off (least_rest kind c.prev_weekly c.owed) (omega (arith, least-most kind c.prev_weekly c.owed));
  daily = le-leb (660 + c.owed) c.off (omega arith);
  weekly = le-leb (2700 + c.owed) c.off (omega arith);
  regular = le-ltb c.off 2700 (omega arith);
  full = omega arith;
}

none_both : (limit : ℕ) (a b : Clock) (from_a from_b : ℤ) → Held a b → pos a.off ≤ℤ (pos a.at -ℤ from_a) → pos b.off ≤ℤ (pos b.at -ℤ from_b) →
    limit < 20160 → left_until limit from_a a.at ≡ left_until limit from_b b.at
none_both limit a b from_a from_b h in_a in_b l =
    let long_a = h.a_off in let long_b = h.b_off in
    none_left limit a.at a.off from_a in_a (omega arith) ∙ sym (none_left limit b.at b.off from_b in_b (omega arith))

pub few-other : (a b : Clock) → Held a b → b.owed ≤ 1260
few-other a b h = let e = h.debt.owed_same in let f = h.few in omega arith

-- a long run pays what is owed, or leaves it
held-ended : (a b : Clock) (kind : Kind) → Held a b → Long a kind → Long b kind → DueAlike (run_ended a kind) (run_ended b kind)
held-ended a b kind h x y =
    let pays : paying_here a kind ≡ paying_here b kind = rw (x.one, x.daily, x.weekly, y.one, y.daily, y.weekly) refl in
    let owes : owing_here a kind ≡ owing_here b kind = rw (x.one, y.one, x.regular, y.regular) refl in
    let long = h.a_off in let other = h.b_off in
    dues-ended a b kind pays owes (omega arith) h.at h.debt

long-room : (a b : Clock) (mark : Mark) (kind : Kind) → Held a b → RunInside a → RunInside b → Long a kind → Long b kind → (r : Rule) →
    room a (run_ended a kind) mark kind r ≡ room b (run_ended b kind) mark kind r
long-room a b mark kind h ia ib x y H1 = rw (x.break, y.break) refl
long-room a b mark kind h ia ib x y H2 = rw (x.one, y.one, x.before, y.before, h.drive_day, h.long_days) refl
long-room a b mark Plain h ia ib x y H3 = rw (x.one, y.one) (none_both 900 a b a.day_from b.day_from h ia.day ib.day (omega arith))
long-room a b mark Daily h ia ib x y H3 = rw (x.one, y.one, h.at) refl
long-room a b mark Weekly h ia ib x y H3 = rw (x.one, y.one, h.at) refl
long-room a b mark kind h ia ib x y H4 = rw (x.one, y.one, x.long, y.long, h.day, h.split, h.reduced) refl
long-room a b mark kind h ia ib x y H5 = rw (x.one, y.one, x.least, y.least) refl
long-room a b mark Plain h ia ib x y H6 = rw (x.one, y.one) (none_both 8640 a b a.rest_from b.rest_from h ia.since ib.since (omega arith))
long-room a b mark Daily h ia ib x y H6 = rw (x.one, y.one) (none_both 8640 a b a.rest_from b.rest_from h ia.since ib.since (omega arith))
long-room a b mark Weekly h ia ib x y H6 = rw (x.one, y.one, h.at) refl
long-room a b mark kind h ia ib x y H7 = rw h.drive_week refl
long-room a b mark kind h ia ib x y H8 = rw (h.drive_week, h.prev_drive) refl
long-room a b mark kind h ia ib x y H9 = rw (h.work_week, h.work_before) refl
long-room a b mark kind h ia ib x y H10 = rw (x.pause, y.pause) refl
long-room a b mark kind h ia ib x y H11 = rw (x.one, y.one, x.pause, y.pause, x.full, y.full, h.work_day) refl
long-room a b mark kind h ia ib x y H12 = debt-room-same (run_ended a kind) (run_ended b kind) h.at (held-ended a b kind h x y)

-- the same room for each rule
pub held-room : (a b : Clock) (mark : Mark) (kind : Kind) → Held a b → RunInside a → RunInside b → (r : Rule) →
    room a (run_ended a kind) mark kind r ≡ room b (run_ended b kind) mark kind r
held-room a b mark kind h ia ib r = long-room a b mark kind h ia ib (long-run a kind h.a_off h.few) (long-run b kind h.b_off (few-other a b h)) r

pub held-rested : (a b : Clock) → Held a b → Held (rested a 1) (rested b 1)
held-rested a b h = record {
  at = let e = h.at in omega arith;
  a_off = let e = h.a_off in omega arith;
  b_off = let e = h.b_off in omega arith;
  day = let e = h.day in omega (arith, ints);
  drive_day = h.drive_day;
  long_days = h.long_days;
  split = h.split;
  reduced = h.reduced;
  prev_weekly = h.prev_weekly;
  work_day = h.work_day;
  drive_week = h.drive_week;
  work_week = h.work_week;
  prev_drive = h.prev_drive;
  work_before = h.work_before;
  debt = dues-rested a b h.debt;
  few = h.few;
}

-- a weekly rest of two weeks or more forgets how long it was, but for the next weekly rest
pub held-weekly : (a b : Clock) → Held a b → Alike (run_ended a Weekly) (run_ended b Weekly)
held-weekly a b h =
    let x = long-run a Weekly h.a_off h.few in let y = long-run b Weekly h.b_off (few-other a b h) in let at = h.at in record {
      same = clock_ext _ _ (record {
        at = h.at;
        off = refl;
        day_from = rw (x.one, y.one, h.at) refl;
        rest_from = rw (x.one, y.one, h.at) refl;
        period = rw (x.break, y.break) refl;
        half = rw (x.break, y.break) refl;
        drive_day = rw (x.one, y.one) refl;
        long_days = rw (x.one, y.one, x.before, y.before, h.drive_day, h.long_days) refl;
        split = rw (x.one, y.one) refl;
        reduced = rw (x.one, y.one) refl;
        prev_weekly = refl;
        work_run = rw (x.pause, y.pause) refl;
        work_day = rw (x.one, y.one) refl;
        pause_day = rw (x.one, y.one) refl;
        drive_week = h.drive_week;
        work_week = h.work_week;
        prev_drive = h.prev_drive;
        work_before = h.work_before;
        owed = (held-ended a b Weekly h x y).owed_same;
        due = refl;
      });
      regular = rw (x.one, y.one, x.regular, y.regular) refl;
      debt = held-ended a b Weekly h x y;
    }
