-- The clock of what is left of a line is the clock of the line, moved.
use Rattle.std.proofs.Common.{◌≡◌, ℕ, ◌+◌, ◌≤◌, Bool, true, false, cond, leb, List, [], ◌∷◌, ◌++◌, refl, arith, sym, ◌∙◌, min, le-leb, pos}
use Rattle.std.proofs.lemmas.Int.{ints}
use Rattle.minute_line.specs.declared.marks.Mark.{Mark}
use Rattle.minute_line.specs.declared.marks.Kind.{Kind}
use Rattle.minute_line.specs.declared.marks.Kind.TheVariants.{Plain, Weekly}
use Rattle.minute_line.specs.declared.marks.Stint.{Stint}
use Rattle.minute_line.specs.Marks.{is_off, is_drive, is_working}
use Rattle.hours_rules.specs.declared.clocks.Clock.{Clock}
use Rattle.hours_rules.specs.Debts.{Debt}
use Rattle.hours_rules.specs.Machine.{run_ended, ticked, rested, rest_here, if_so}
use Rattle.driver_history.specs.Carrying.{SinceWeeklyRestFields, duty, rest, all_stints}
use Rattle.driver_history.proofs.Watching.{after_block, declared_after, watch, declared_by}
use Rattle.driver_history.proofs.Weeks.{first_clock}
use Rattle.driver_history.proofs.Shifting.{Shifted, shifted-trans, shifted-closed, rested-none}

so-add : (b : Bool) (a n p : ℕ) → if_so b (a + n) + p ≡ if_so b n + (if_so b a + p)
so-add true a n p = omega arith
so-add false a n p = omega arith

-- a block in two parts
join-ticked : (e : Clock) (m : Mark) (a n : ℕ) (k : Kind) → e.off ≡ 0 → e.pause_day ≤ 45 →
    Shifted (ticked e m (a + n)) (ticked (run_ended (ticked e m a) k) m n)
join-ticked e m a n k z p = record {
  off = z;
  day = rw z (omega (arith, ints));
  since = rw z (omega (arith, ints));
  counts = record {
    period = rw z (so-add (is_drive m) a n e.period);
    half = rw z refl;
    drive_day = rw z (so-add (is_drive m) a n e.drive_day);
    split = rw z refl;
    reduced = rw z (omega arith);
    prev_weekly = rw z refl;
    work_run = rw z (so-add (is_working m) a n e.work_run);
    work_day = rw z (so-add (is_working m) a n e.work_day);
    pause_day = rw z (omega arith);
    owed = rw z refl;
  };
}

pause-most : (x : Clock) (k : Kind) → (run_ended x k).pause_day ≤ 45
pause-most x k = most (rest_here x k) _
  where
    most : (b : Bool) (n : ℕ) → cond b 0 (min 45 n) ≤ 45
    most true n = omega arith
    most false n = omega arith

-- a debt of so many minutes, whenever it is due
abbrev pub owed_only : ℕ → Debt
owed_only owed = record { owed = owed; due = pos 0 }

-- after a weekly rest each span begins afresh
pub fresh-shift : (k : Clock) (o : ℕ) (m : Mark) (n : ℕ) → o ≡ k.off → 1440 ≤ k.off →
    Shifted (ticked (run_ended (first_clock o 0 0 (owed_only (run_ended k Weekly).owed)) Plain) m n) (ticked (run_ended k Weekly) m n)
fresh-shift k o m n e l =
    let one : leb 1 k.off ≡ true = le-leb 1 k.off (omega arith) in
    let pause : leb 15 k.off ≡ true = le-leb 15 k.off (omega arith) in
    let break : leb 45 k.off ≡ true = le-leb 45 k.off (omega arith) in record {
      off = refl;
      day = rw one (omega (arith, ints));
      since = rw one (omega (arith, ints));
      counts = record {
        period = rw break refl;
        half = rw break refl;
        drive_day = rw one refl;
        split = rw one refl;
        reduced = rw one (omega arith);
        prev_weekly = rw one e;
        work_run = rw pause refl;
        work_day = rw one refl;
        pause_day = rw one (omega arith);
        owed = refl;
      };
    }

pub watch-append : (xs ys : List Stint) (k : Clock) (d : Kind) → watch k d (xs ++ ys) ≡ watch (watch k d xs) (declared_by d xs) ys
watch-append [] ys k d = refl
watch-append (x ∷ xs) ys k d = watch-append xs ys (after_block k d x.mark x.minutes) (declared_after x)

pub declared-append : (xs ys : List Stint) (d : Kind) → declared_by d (xs ++ ys) ≡ declared_by (declared_by d xs) ys
declared-append [] ys d = refl
declared-append (x ∷ xs) ys d = declared-append xs ys (declared_after x)

-- the clock of some stints after a weekly rest, where so many minutes are owed
abbrev pub closed_by : ℕ → ℕ → List Stint → Clock
closed_by weekly owed stints = watch (first_clock weekly 0 0 (owed_only owed)) Plain stints

abbrev pub closed_clock : SinceWeeklyRestFields → ℕ → Clock
closed_clock c owed = closed_by c.prev_weekly owed (all_stints c)

pub closed-duty : (weekly w : ℕ) (all : List Stint) (m : Mark) (n : ℕ) → is_off m ≡ false →
    closed_by weekly w (all ++ duty m n ∷ []) ≡ ticked (run_ended (closed_by weekly w all) (declared_by Plain all)) m n
closed-duty weekly w all m n f = watch-append all (duty m n ∷ []) (first_clock weekly 0 0 (owed_only w)) Plain ∙ rw f refl

pub closed-rest : (weekly w : ℕ) (all : List Stint) (o : ℕ) (kind : Kind) → closed_by weekly w (all ++ rest o kind ∷ []) ≡ rested (closed_by weekly w all) o
closed-rest weekly w all o kind = watch-append all (rest o kind ∷ []) (first_clock weekly 0 0 (owed_only w)) Plain

-- the clock of what is left, which began with so many minutes owed, is this clock moved, with its open run
pub record Follows (c : SinceWeeklyRestFields) (w : ℕ) (k : Clock) (d : Kind) : Type 0 where
  pub shift : Shifted (rested (closed_clock c w) c.open_off) k
  pub kind : d ≡ c.declared
  pub none : (closed_clock c w).off ≡ 0

-- a state with no open run, by the clock of its stints
pub follows-closed : (c : SinceWeeklyRestFields) (w : ℕ) (k y : Clock) → closed_clock c w ≡ y → c.open_off ≡ 0 → c.declared ≡ Plain → y.off ≡ 0 → Shifted y k → Follows c w k Plain
follows-closed c w k y e z p n s = record {
  shift = rw (e, rested-none y c.open_off z) s;
  kind = sym p;
  none = rw e n;
}

-- a block that joins none
pub follows-next : (c next : SinceWeeklyRestFields) (w : ℕ) (k : Clock) (d : Kind) (m : Mark) (n : ℕ) → is_off m ≡ false → Follows c w k d → c.open_off ≡ 0 →
    next.prev_weekly ≡ c.prev_weekly → all_stints next ≡ all_stints c ++ duty m n ∷ [] → next.open_off ≡ 0 → next.declared ≡ Plain →
    Follows next w (ticked (run_ended k d) m n) Plain
follows-next c next w k d m n f h z p a o q =
    let s = h.shift in
    follows-closed next w _ (ticked (run_ended (closed_clock c w) (declared_by Plain (all_stints c))) m n)
    (rw (p, a) (closed-duty c.prev_weekly w (all_stints c) m n f)) o q refl
    (shifted-closed (closed_clock c w) k (declared_by Plain (all_stints c)) d m n h.none (rw (rested-none (closed_clock c w) c.open_off z) at s))

-- a block that lengthens the last one
pub follows-join : (c next : SinceWeeklyRestFields) (w : ℕ) (k : Clock) (d : Kind) (m : Mark) (n : ℕ) → is_off m ≡ false → Follows c w k d → c.open_off ≡ 0 →
    next.prev_weekly ≡ c.prev_weekly → all_stints c ≡ c.stints ++ duty m c.minutes ∷ [] → all_stints next ≡ c.stints ++ duty m (c.minutes + n) ∷ [] →
    next.open_off ≡ 0 → next.declared ≡ Plain → Follows next w (ticked (run_ended k d) m n) Plain
follows-join c next w k d m n f h z p was a o q =
    let e : Clock = run_ended (closed_by c.prev_weekly w c.stints) (declared_by Plain c.stints) in
    let before : closed_clock c w ≡ ticked e m c.minutes = rw was (closed-duty c.prev_weekly w c.stints m c.minutes f) in
    let s = h.shift in
    let x : Shifted (ticked e m c.minutes) k = rw (rested-none (closed_clock c w) c.open_off z, before) at s in
    follows-closed next w _ (ticked e m (c.minutes + n)) (rw (p, a) (closed-duty c.prev_weekly w c.stints m (c.minutes + n) f)) o q refl
    (shifted-trans _ _ _ (join-ticked e m c.minutes n Plain refl (pause-most (closed_by c.prev_weekly w c.stints) (declared_by Plain c.stints)))
    (shifted-closed (ticked e m c.minutes) k Plain d m n refl x))
