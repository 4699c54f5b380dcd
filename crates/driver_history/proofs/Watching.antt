-- The clock of a line of stints.
use Rattle.std.proofs.Common.{◌≡◌, ℕ, ◌+◌, ◌≤◌, Bool, true, false, cond, ◌&&◌, ◌||◌, leb, inl, inr, List, [], ◌∷◌, refl, fold, arith, pos, ℤ, ◌-ℤ◌, sym, ◌∙◌}
use Rattle.std.proofs.lemmas.Int.{ints}
use Rattle.std.proofs.lemmas.Bool.{cases_Bool}
use Rattle.std.proofs.lemmas.Bool.Decides.{nat_tests}
use Rattle.minute_line.specs.declared.marks.Mark.{Mark}
use Rattle.minute_line.specs.declared.marks.Mark.TheVariants.{Drive, Work, Ready, Off}
use Rattle.minute_line.specs.declared.marks.Kind.{Kind}
use Rattle.minute_line.specs.declared.marks.Kind.TheVariants.{Plain}
use Rattle.minute_line.specs.declared.marks.Stint.{Stint}
use Rattle.minute_line.specs.Marks.{is_off, is_duty}
use Rattle.minute_line.specs.Minutes.{Reached, add_block, add_stint}
use Rattle.hours_rules.specs.declared.clocks.Clock.{Clock}
use Rattle.hours_rules.specs.Rules.{Past}
use Rattle.hours_rules.specs.Standing.{Stands}
use Rattle.hours_rules.specs.Machine.{run_ended, ticked, rested, weekly_here}
use Rattle.hours_rules.proofs.Blocks.{stands-off_block}
use Rattle.hours_rules.proofs.Faults.{block-stands}
use Rattle.driver_history.specs.Carrying.{SinceWeeklyRestFields, carry, add_off, add_duty, end_off}
use Rattle.driver_history.proofs.Carry.{whole_of, weekly_ends, whole-end_off, whole-add_duty, prev-end_off, open-end_off, open-add_duty, prev-add_duty, declared-add_duty}

-- the clock once some minutes more have passed, where the open run was declared to be of this kind
abbrev pub after_block : Clock → Kind → Mark → ℕ → Clock
after_block c declared mark n = cond (is_off mark) (rested c n) (ticked (run_ended c declared) mark n)

-- what the off run at the end is declared to be after a stint
abbrev pub declared_after : Stint → Kind
declared_after s = cond (is_off s.mark) s.kind Plain

-- the stint has a minute, or is Off
abbrev pub Lasts : Stint → Type 0
Lasts s = is_off s.mark ≡ false → 1 ≤ s.minutes

-- each on-duty stint has a minute
abbrev pub each_lasts : List Stint → Bool
each_lasts [] = true
each_lasts (s ∷ ss) = (is_off s.mark || leb 1 s.minutes) && each_lasts ss

-- the clock after some stints
abbrev pub watch : Clock → Kind → List Stint → Clock
watch k declared [] = k
watch k declared (s ∷ ss) = watch (after_block k declared s.mark s.minutes) (declared_after s) ss

-- what the off run at the end is declared to be after some stints
abbrev pub declared_by : Kind → List Stint → Kind
declared_by declared [] = declared
declared_by declared (s ∷ ss) = declared_by (declared_after s) ss

-- the clock has the length of the line since its last weekly rest, of that rest and of the open run
pub record Tracks (c : SinceWeeklyRestFields) (k : Clock) (declared : Kind) : Type 0 where
  pub off : k.off ≡ c.open_off
  pub kind : declared ≡ c.declared
  pub since : (pos k.at -ℤ k.rest_from) ≡ pos (whole_of c)
  pub prev : k.prev_weekly ≡ c.prev_weekly

pub duty_off : (m : Mark) → is_off m ≡ false → is_duty m ≡ true
duty_off Off h = cc
duty_off Drive h = refl
duty_off Work h = refl
duty_off Ready h = refl

since_step : (b : Bool) (at n whole : ℕ) (from : ℤ) → (pos at -ℤ from) ≡ pos whole →
    (pos (at + n) -ℤ cond b (pos at) from) ≡ pos (cond b 0 whole + n)
since_step true at n whole from h = omega (arith, ints)
since_step false at n whole from h = omega (arith, ints)

weekly_is : (c : SinceWeeklyRestFields) (k : Clock) (d : Kind) → Tracks c k d → weekly_here k d ≡ weekly_ends c
weekly_is c k d t = rw (t.off, t.kind) refl

pub tracks-duty : (c : SinceWeeklyRestFields) (k : Clock) (d : Kind) (m : Mark) (n : ℕ) → Tracks c k d →
    Tracks (add_duty (end_off c) m n) (ticked (run_ended k d) m n) Plain
tracks-duty c k d m n t = record {
  off = sym (open-add_duty (end_off c) m n ∙ open-end_off c);
  kind = sym (declared-add_duty (end_off c) m n);
  since = rw (whole-add_duty (end_off c) m n, whole-end_off c, weekly_is c k d t)
      (since_step (weekly_ends c) k.at n (whole_of c) k.rest_from t.since);
  prev = rw (prev-add_duty (end_off c) m n, prev-end_off c, weekly_is c k d t, t.off, t.prev) refl;
}

pub tracks-off : (c : SinceWeeklyRestFields) (k : Clock) (d kind : Kind) (n : ℕ) → Tracks c k d → Tracks (add_off c n kind) (rested k n) kind
tracks-off c k d kind n t = record {
  off = let o = t.off in omega arith;
  kind = refl;
  since = let h = t.since in omega (arith, ints);
  prev = t.prev;
}

pub tracks-carry : (c : SinceWeeklyRestFields) (k : Clock) (d : Kind) (s : Stint) → Tracks c k d →
    Tracks (carry c s) (after_block k d s.mark s.minutes) (declared_after s)
tracks-carry c k d s t =
    elim (cases_Bool (is_off s.mark)) [
      | inl o ↦ rw o (tracks-off c k d s.kind s.minutes t)
      | inr o ↦ rw o (tracks-duty c k d s.mark s.minutes t)
    ]

pub tracks-fold : (ss : List Stint) (c : SinceWeeklyRestFields) (k : Clock) (d : Kind) → Tracks c k d →
    Tracks (fold carry c ss) (watch k d ss) (declared_by d ss)
tracks-fold [] c k d t = t
tracks-fold (s ∷ ss) c k d t = tracks-fold ss (carry c s) _ _ (tracks-carry c k d s t)

stands-mark : (k : Clock) (past : Past) (r : Reached) (m : Mark) (n : ℕ) (kind : Kind) → (is_off m ≡ false → 1 ≤ n) →
    Stands k past r.minutes → Stands (after_block k r.declared m n) past (add_block m n kind r).minutes
stands-mark k past r Off n kind l s = stands-off_block k past n Plain r.minutes s
stands-mark k past r Drive n kind l s = block-stands k past n Drive r.declared r.minutes refl (let h = l refl in omega arith) s
stands-mark k past r Work n kind l s = block-stands k past n Work r.declared r.minutes refl (let h = l refl in omega arith) s
stands-mark k past r Ready n kind l s = block-stands k past n Ready r.declared r.minutes refl (let h = l refl in omega arith) s

declared_block : (m : Mark) (n : ℕ) (kind : Kind) (r : Reached) → (add_block m n kind r).declared ≡ cond (is_off m) kind Plain
declared_block Off n kind r = refl
declared_block Drive n kind r = refl
declared_block Work n kind r = refl
declared_block Ready n kind r = refl

pub declared-add_stint : (s : Stint) (r : Reached) → (add_stint r s).declared ≡ declared_after s
declared-add_stint s r = declared_block s.mark s.minutes s.kind r

pub stands-stint : (k : Clock) (past : Past) (r : Reached) (d : Kind) (s : Stint) → r.declared ≡ d → Lasts s →
    Stands k past r.minutes → Stands (after_block k d s.mark s.minutes) past (add_stint r s).minutes
stands-stint k past r d s e l h = rw (← e) (stands-mark k past r s.mark s.minutes s.kind l h)

pub first_lasts : (s : Stint) (ss : List Stint) → each_lasts (s ∷ ss) ≡ true → Lasts s
first_lasts s ss h = λ (d : is_off s.mark ≡ false). grind (arith, nat_tests)

pub rest_lasts : (s : Stint) (ss : List Stint) → each_lasts (s ∷ ss) ≡ true → each_lasts ss ≡ true
rest_lasts s ss h = grind (arith, nat_tests)

pub stands-watch : (ss : List Stint) (k : Clock) (past : Past) (r : Reached) (d : Kind) → r.declared ≡ d → each_lasts ss ≡ true →
    Stands k past r.minutes → Stands (watch k d ss) past (fold add_stint r ss).minutes
stands-watch [] k past r d e l h = h
stands-watch (s ∷ ss) k past r d e l h =
    stands-watch ss _ past (add_stint r s) _ (declared-add_stint s r) (rest_lasts s ss l) (stands-stint k past r d s e (first_lasts s ss l) h)
