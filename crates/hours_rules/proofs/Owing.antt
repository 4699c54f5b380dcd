-- A rest leaves no more of a debt that is smaller and due no sooner, where it is as long.
use Rattle.std.proofs.Common.{◌≡◌, ℕ, ◌+◌, ◌-◌, ◌≤◌, ◌<◌, ◌≤ℤ◌, Bool, true, false, cond, ◌&&◌, ◌||◌, eqb, leb, ltb, refl, sym, arith, pos, ℤ, ◌-ℤ◌}
use Rattle.std.proofs.Common.{true≢false}
use Rattle.std.proofs.lemmas.Bool.Decides.{nat_tests}
use Rattle.std.proofs.lemmas.Int.{ints}
use Rattle.minute_line.specs.declared.marks.Kind.{Kind}
use Rattle.minute_line.specs.declared.marks.Kind.TheVariants.{Plain, Daily, Weekly}
use Rattle.minute_line.specs.Marks.{is_daily, is_weekly}
use Rattle.hours_rules.specs.declared.clocks.Clock.{Clock}
use Rattle.hours_rules.specs.Debts.{third_week_end}
use Rattle.hours_rules.specs.Rules.{least_rest}
use Rattle.hours_rules.specs.Machine.{run_ended, short_here}

-- the rest pays
pays : Kind → ℕ → ℕ → Bool
pays kind off owed = ((leb 1 off && is_daily kind) && leb (660 + owed) off) || ((leb 1 off && is_weekly kind) && leb (2700 + owed) off)

-- it is a reduced weekly one, and nothing is owed yet
owes : Kind → ℕ → ℕ → Bool
owes kind off owed = (leb 1 off && is_weekly kind) && (ltb off 2700 && eqb owed 0)

-- what is left, by which of two rests pays and which leaves a debt of its own
by_tests : (pa pb oa ob : Bool) (k l x y : ℕ) (p q e : ℤ) → (pb ≡ true → pa ≡ true) → (oa ≡ true → pb ≡ false → ob ≡ true) →
    (ob ≡ true → pa ≡ false → oa ≡ true) → l ≤ k → x ≤ y → (0 < x → q ≤ℤ p) →
    (cond pa 0 (cond oa (2700 - k) x) ≤ cond pb 0 (cond ob (2700 - l) y))
    × (0 < cond pa 0 (cond oa (2700 - k) x) → cond pb (pos 0) (cond ob e q) ≤ℤ cond pa (pos 0) (cond oa e p))
by_tests true pb oa ob k l x y p q e f g h m n d = (omega arith, λ some. absurd (omega arith))
by_tests false true oa ob k l x y p q e f g h m n d = absurd (true≢false (sym (f refl)))
by_tests false false true true k l x y p q e f g h m n d = (omega arith, λ some. omega (arith, ints))
by_tests false false true false k l x y p q e f g h m n d = absurd (true≢false (sym (g refl refl)))
by_tests false false false true k l x y p q e f g h m n d = absurd (true≢false (sym (h refl refl)))
by_tests false false false false k l x y p q e f g h m n d = (n, d)

pays-more : (kind : Kind) (k l x y : ℕ) → l ≤ k → x ≤ y → pays kind l y ≡ true → pays kind k x ≡ true
unfolding pays
pays-more Plain k l x y m n h = grind (arith, nat_tests)
pays-more Daily k l x y m n h = grind (arith, nat_tests)
pays-more Weekly k l x y m n h = grind (arith, nat_tests)

owes-both : (kind : Kind) (k l w x y : ℕ) → l ≤ k → (1 ≤ k → 1 ≤ l) → (leb 1 l && ltb l (least_rest kind w y)) ≡ false →
    owes kind k x ≡ true → owes kind l y ≡ true
unfolding owes
owes-both Plain k l w x y m s long h = grind (arith, nat_tests)
owes-both Daily k l w x y m s long h = grind (arith, nat_tests)
owes-both Weekly k l w x y m s long h = grind (arith, nat_tests)

owes-or_pays : (kind : Kind) (k l x y : ℕ) → l ≤ k → x ≤ y → owes kind l y ≡ true → pays kind k x ≡ false → owes kind k x ≡ true
unfolding owes pays
owes-or_pays Plain k l x y m n h f = grind (arith, nat_tests)
owes-or_pays Daily k l x y m n h f = grind (arith, nat_tests)
owes-or_pays Weekly k l x y m n h f = grind (arith, nat_tests)

-- the debts of two clocks once their runs have ended at the same minute, the second's long enough and the first's as long
pub record LeavesLess (a b : Clock) : Type 0 where
  pub owed : a.owed ≤ b.owed
  pub due : 0 < a.owed → b.due ≤ℤ a.due

pub leaves-less : (a b : Clock) (kind : Kind) → a.at ≡ b.at → b.off ≤ a.off → (1 ≤ a.off → 1 ≤ b.off) →
    short_here b kind ≡ false → LeavesLess a b → LeavesLess (run_ended a kind) (run_ended b kind)
unfolding owes pays
leaves-less a b kind e m s long d =
    let both = by_tests (pays kind a.off a.owed) (pays kind b.off b.owed) (owes kind a.off a.owed) (owes kind b.off b.owed) a.off b.off a.owed b.owed
    a.due b.due (third_week_end (pos b.at -ℤ pos 1)) (pays-more kind a.off b.off a.owed b.owed m d.owed)
    (λ h f. owes-both kind a.off b.off b.prev_weekly a.owed b.owed m s long h)
    (owes-or_pays kind a.off b.off a.owed b.owed m d.owed) m d.owed d.due in record {
      owed = both.0;
      due = rw e both.1;
    }

-- a Plain run leaves a debt as it is
pub plain-owed : (c : Clock) → (run_ended c Plain).owed ≡ c.owed
plain-owed c = grind arith

pub plain-due : (c : Clock) → (run_ended c Plain).due ≡ c.due
plain-due c = grind arith

-- and is never too short
pub plain-long : (c : Clock) → short_here c Plain ≡ false
plain-long c = grind (arith, nat_tests)
