-- Two clocks that are one but for where the line began.
use Rattle.std.proofs.Common.{◌≡◌, ℕ, ◌+◌, Bool, true, false, cond, ◌&&◌, leb, List, [], ◌∷◌, refl, arith, sym, ◌∙◌, pos, ℤ, ◌-ℤ◌, subst, inl, inr}
use Rattle.std.proofs.lemmas.Bool.{cases_Bool}
use Rattle.std.proofs.lemmas.Int.{ints}
use Rattle.minute_line.specs.declared.marks.Mark.{Mark}
use Rattle.minute_line.specs.declared.marks.Kind.{Kind}
use Rattle.minute_line.specs.declared.marks.Stint.{Stint}
use Rattle.minute_line.specs.Marks.{is_off, is_weekly}
use Rattle.hours_rules.specs.declared.clocks.Clock.{Clock}
use Rattle.hours_rules.specs.Debts.{Debt}
use Rattle.hours_rules.specs.Machine.{run_ended, ticked, rested, rest_here}
use Rattle.driver_history.proofs.Watching.{after_block, declared_after, watch}
use Rattle.driver_history.proofs.Weeks.{first_clock}

-- what a clock counts, but for its spans, its open run, the week's own counts and when a debt is due
pub record Tally : Type 0 where
  pub period : ℕ
  pub half : Bool
  pub drive_day : ℕ
  pub split : Bool
  pub reduced : ℕ
  pub prev_weekly : ℕ
  pub work_run : ℕ
  pub work_day : ℕ
  pub pause_day : ℕ
  pub owed : ℕ

abbrev pub tally : Clock → Tally
tally k = record {
  period = k.period;
  half = k.half;
  drive_day = k.drive_day;
  split = k.split;
  reduced = k.reduced;
  prev_weekly = k.prev_weekly;
  work_run = k.work_run;
  work_day = k.work_day;
  pause_day = k.pause_day;
  owed = k.owed;
}

pub record SameTally (x y : Tally) : Type 0 where
  pub period : x.period ≡ y.period
  pub half : x.half ≡ y.half
  pub drive_day : x.drive_day ≡ y.drive_day
  pub split : x.split ≡ y.split
  pub reduced : x.reduced ≡ y.reduced
  pub prev_weekly : x.prev_weekly ≡ y.prev_weekly
  pub work_run : x.work_run ≡ y.work_run
  pub work_day : x.work_day ≡ y.work_day
  pub pause_day : x.pause_day ≡ y.pause_day
  pub owed : x.owed ≡ y.owed

pub same-tally : (x : Tally) → SameTally x x
same-tally x = record { period = refl; half = refl; drive_day = refl; split = refl; reduced = refl; prev_weekly = refl; work_run = refl; work_day = refl; pause_day = refl; owed = refl }

-- equal but for where the line began, for the week's own counts and for when a debt is due
pub record Shifted (x y : Clock) : Type 0 where
  pub off : x.off ≡ y.off
  pub day : (pos x.at -ℤ x.day_from) ≡ (pos y.at -ℤ y.day_from)
  pub since : (pos x.at -ℤ x.rest_from) ≡ (pos y.at -ℤ y.rest_from)
  pub counts : SameTally (tally x) (tally y)

pub shifted-trans : (x y z : Clock) → Shifted x y → Shifted y z → Shifted x z
shifted-trans x y z s t = record {
  off = s.off ∙ t.off;
  day = s.day ∙ t.day;
  since = s.since ∙ t.since;
  counts = record {
    period = s.counts.period ∙ t.counts.period;
    half = s.counts.half ∙ t.counts.half;
    drive_day = s.counts.drive_day ∙ t.counts.drive_day;
    split = s.counts.split ∙ t.counts.split;
    reduced = s.counts.reduced ∙ t.counts.reduced;
    prev_weekly = s.counts.prev_weekly ∙ t.counts.prev_weekly;
    work_run = s.counts.work_run ∙ t.counts.work_run;
    work_day = s.counts.work_day ∙ t.counts.work_day;
    pause_day = s.counts.pause_day ∙ t.counts.pause_day;
    owed = s.counts.owed ∙ t.counts.owed;
  };
}

pub shifted-rested : (x y : Clock) (n k : ℕ) → n ≡ k → Shifted x y → Shifted (rested x n) (rested y k)
shifted-rested x y n k e s = record {
  off = let o = s.off in omega arith;
  day = let d = s.day in omega (arith, ints);
  since = let d = s.since in omega (arith, ints);
  counts = s.counts;
}

-- minutes of rest in two parts
pub rested-rested : (x : Clock) (a b : ℕ) → Shifted (rested x (a + b)) (rested (rested x a) b)
rested-rested x a b = record {
  off = omega arith;
  day = omega (arith, ints);
  since = omega (arith, ints);
  counts = same-tally (tally x);
}

from-shift : (b : Bool) (xa ya n : ℕ) (xf yf : ℤ) → (pos xa -ℤ xf) ≡ (pos ya -ℤ yf) →
    (pos (xa + n) -ℤ cond b (pos xa) xf) ≡ (pos (ya + n) -ℤ cond b (pos ya) yf)
from-shift true xa ya n xf yf h = omega (arith, ints)
from-shift false xa ya n xf yf h = omega (arith, ints)

pub shifted-duty : (x y : Clock) (kind : Kind) (m : Mark) (n : ℕ) → Shifted x y → Shifted (ticked (run_ended x kind) m n) (ticked (run_ended y kind) m n)
shifted-duty x y kind m n s = record {
  off = refl;
  day = rw s.off (from-shift (rest_here y kind) x.at y.at n x.day_from y.day_from s.day);
  since = rw s.off (from-shift (leb 1 y.off && is_weekly kind) x.at y.at n x.rest_from y.rest_from s.since);
  counts = record {
    period = rw (s.off, s.counts.half, s.counts.period) refl;
    half = rw (s.off, s.counts.half) refl;
    drive_day = rw (s.off, s.counts.drive_day) refl;
    split = rw (s.off, s.counts.split) refl;
    reduced = rw (s.off, s.counts.split, s.day, s.counts.reduced) refl;
    prev_weekly = rw (s.off, s.counts.prev_weekly) refl;
    work_run = rw (s.off, s.counts.work_run) refl;
    work_day = rw (s.off, s.counts.work_day) refl;
    pause_day = rw (s.off, s.counts.pause_day) refl;
    owed = rw (s.off, s.counts.owed) refl;
  };
}

-- where no run is open, its kind means nothing
closed-kind : (x : Clock) (a b : Kind) → x.off ≡ 0 → run_ended x a ≡ run_ended x b
closed-kind x a b z = rw z refl

pub shifted-closed : (x y : Clock) (a b : Kind) (m : Mark) (n : ℕ) → x.off ≡ 0 → Shifted x y →
    Shifted (ticked (run_ended x a) m n) (ticked (run_ended y b) m n)
shifted-closed x y a b m n z s =
    subst (λ (e : Clock). Shifted (ticked e m n) (ticked (run_ended y b) m n)) (sym (closed-kind x a b z)) (shifted-duty x y b m n s)

-- no minute of rest
pub rested-none : (x : Clock) (o : ℕ) → o ≡ 0 → rested x o ≡ x
rested-none x o z =
    let at : x.at + o ≡ x.at = omega arith in
    let off : x.off + o ≡ x.off = omega arith in λ i. record x { at = at i; off = off i }

-- two clocks that are one but for a shift stay so
shifted-block : (x y : Clock) (d : Kind) (m : Mark) (n : ℕ) → Shifted x y → Shifted (after_block x d m n) (after_block y d m n)
shifted-block x y d m n s =
    elim (cases_Bool (is_off m)) [
      | inl t ↦ rw t (shifted-rested x y n n refl s)
      | inr f ↦ rw f (shifted-duty x y d m n s)
    ]

pub shifted-watch : (ss : List Stint) (x y : Clock) (d : Kind) → Shifted x y → Shifted (watch x d ss) (watch y d ss)
shifted-watch [] x y d s = s
shifted-watch (t ∷ ss) x y d s = shifted-watch ss _ _ (declared_after t) (shifted-block x y d t.mark t.minutes s)

-- what is known of the weeks before, and when a debt is due, changes nothing else
pub shifted-first : (weekly a b drive work : ℕ) (x y : Debt) → x.owed ≡ y.owed → Shifted (first_clock weekly a b x) (first_clock weekly drive work y)
shifted-first weekly a b drive work x y e = record {
  off = refl;
  day = refl;
  since = refl;
  counts = record { period = refl; half = refl; drive_day = refl; split = refl; reduced = refl; prev_weekly = refl; work_run = refl; work_day = refl; pause_day = refl; owed = e };
}
