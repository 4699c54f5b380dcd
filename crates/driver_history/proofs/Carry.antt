-- How long what is left of a line is, as it is carried on.
use Rattle.std.proofs.Common.{◌≡◌, ℕ, ◌+◌, ◌≤◌, Bool, true, false, cond, ◌&&◌, leb, inl, inr, List, [], ◌∷◌, ◌++◌, refl, fold, arith, nat_eq}
use Rattle.std.proofs.lemmas.Bool.{cases_Bool}
use Rattle.std.proofs.lemmas.Bool.Decides.{nat_tests}
use Rattle.std.proofs.lemmas.List.Sums.{sum_by-append, sum_by-cons}
use Rattle.minute_line.specs.declared.marks.Mark.{Mark}
use Rattle.minute_line.specs.declared.marks.Kind.{Kind}
use Rattle.minute_line.specs.declared.marks.Stint.{Stint}
use Rattle.minute_line.specs.Marks.{is_off, is_weekly}
use Rattle.minute_line.specs.Minutes.{total_of}
use Rattle.driver_history.specs.Carrying.{SinceWeeklyRestFields, duty, rest, same_mark, all_stints, add_off, end_off, add_duty, carry}
use Rattle.driver_history.specs.Keeping.{held}

off_small : (c : SinceWeeklyRestFields) (n : ℕ) (k : Kind) → held (add_off c n k) ≤ held c + n
off_small c n k = omega arith

end_small : (c : SinceWeeklyRestFields) → held (end_off c) ≤ held c
end_small c = grind arith

duty_small : (c : SinceWeeklyRestFields) (m : Mark) (n : ℕ) → held (add_duty c m n) ≤ held c + n
duty_small c m n = grind arith

pub carry_small : (c : SinceWeeklyRestFields) (s : Stint) → held (carry c s) ≤ held c + s.minutes
carry_small c s =
    elim (cases_Bool (is_off s.mark)) [
      | inl t ↦ rw t (off_small c s.minutes s.kind)
      | inr f ↦ rw f (omega (arith, duty_small (end_off c) s.mark s.minutes, end_small c))
    ]

pub fold_small : (ss : List Stint) (c : SinceWeeklyRestFields) → held (fold carry c ss) ≤ held c + total_of ss
fold_small [] c = omega arith
fold_small (s ∷ ss) c = omega (arith, carry_small c s, fold_small ss (carry c s), sum_by-cons (λ (t : Stint). t.minutes) s ss)

pub kept_small : (x c : SinceWeeklyRestFields) (ss : List Stint) → x ≡ fold carry c ss → held x ≤ held c + total_of ss
kept_small x c ss e = rw e (fold_small ss c)

pub total-append : (xs ys : List Stint) → total_of (xs ++ ys) ≡ total_of xs + total_of ys
total-append xs ys = sum_by-append (λ (t : Stint). t.minutes) xs ys

-- the minutes of all that is left, with the open run
abbrev pub whole_of : SinceWeeklyRestFields → ℕ
whole_of c = total_of c.stints + (c.minutes + c.open_off)

pub all_total : (c : SinceWeeklyRestFields) → total_of (all_stints c) ≡ total_of c.stints + c.minutes
all_total c =
    elim (cases_Bool (nat_eq c.minutes 0)) [
      | inl t ↦ rw t (let z : c.minutes ≡ 0 = grind (arith, nat_tests) in omega arith)
      | inr f ↦ rw f (omega (arith, total-append c.stints (duty c.mark c.minutes ∷ [])))
    ]

-- a weekly rest ends here
abbrev pub weekly_ends : SinceWeeklyRestFields → Bool
weekly_ends c = leb 1 c.open_off && is_weekly c.declared

pub whole-end_off : (c : SinceWeeklyRestFields) → whole_of (end_off c) ≡ cond (weekly_ends c) 0 (whole_of c)
whole-end_off c =
    elim (cases_Bool (nat_eq c.open_off 0)) [
      | inl t ↦ let z : leb 1 c.open_off ≡ false = grind (arith, nat_tests) in rw (t, z) refl
      | inr f ↦ let z : leb 1 c.open_off ≡ true = grind (arith, nat_tests) in by_kind f z (is_weekly c.declared) refl
    ]
  where
    by_kind : nat_eq c.open_off 0 ≡ false → leb 1 c.open_off ≡ true → (b : Bool) → is_weekly c.declared ≡ b →
        whole_of (end_off c) ≡ cond (weekly_ends c) 0 (whole_of c)
    by_kind f z true e = rw (f, z, e) refl
    by_kind f z false e = rw (f, z, e) (omega (arith, total-append (all_stints c) (rest c.open_off c.declared ∷ []), all_total c))

pub whole-add_duty : (c : SinceWeeklyRestFields) (m : Mark) (n : ℕ) → whole_of (add_duty c m n) ≡ whole_of c + n
whole-add_duty c m n =
    elim (cases_Bool (same_mark c.mark m)) [
      | inl t ↦ rw t (omega arith)
      | inr f ↦ rw f (omega (arith, all_total c))
    ]

pub prev-end_off : (c : SinceWeeklyRestFields) → (end_off c).prev_weekly ≡ cond (weekly_ends c) c.open_off c.prev_weekly
prev-end_off c = grind (arith, nat_tests)

pub open-end_off : (c : SinceWeeklyRestFields) → (end_off c).open_off ≡ 0
open-end_off c = grind (arith, nat_tests)

pub open-add_duty : (c : SinceWeeklyRestFields) (m : Mark) (n : ℕ) → (add_duty c m n).open_off ≡ c.open_off
open-add_duty c m n = grind arith

pub prev-add_duty : (c : SinceWeeklyRestFields) (m : Mark) (n : ℕ) → (add_duty c m n).prev_weekly ≡ c.prev_weekly
prev-add_duty c m n = grind arith

pub declared-add_duty : (c : SinceWeeklyRestFields) (m : Mark) (n : ℕ) → (add_duty c m n).declared ≡ Rattle.minute_line.specs.declared.marks.Kind.TheVariants.Plain
declared-add_duty c m n = grind arith
