-- A history's stints, carried on from its own start.
use Rattle.std.proofs.Common.{◌≡◌, ℕ, ◌+◌, Bool, true, false, not, ◌&&◌, ◌||◌, inl, inr, List, [], ◌∷◌, refl, fold, arith, ◌∙◌}
use Rattle.std.proofs.lemmas.Bool.{cases_Bool}
use Rattle.std.proofs.lemmas.Bool.Decides.{nat_tests}
use Rattle.std.proofs.lemmas.List.Sums.{sum_by-cons}
use Rattle.minute_line.specs.declared.marks.Stint.{Stint}
use Rattle.minute_line.specs.Marks.{is_off, is_weekly}
use Rattle.minute_line.specs.Minutes.{total_of}
use Rattle.minute_line.specs.Stints.{is_past, is_line, each_follows}
use Rattle.driver_history.specs.Carrying.{SinceWeeklyRestFields, carry, add_off, add_duty, end_off, all_stints}
use Rattle.driver_history.proofs.Carry.{whole_of, weekly_ends, whole-add_duty, whole-end_off, prev-end_off, prev-add_duty, open-add_duty, open-end_off}
use Rattle.driver_history.proofs.Shapes.{past-carry}
use Rattle.driver_history.proofs.Watching.{each_lasts, first_lasts, rest_lasts}

-- no weekly rest ends in the stints; `weekly` says whether one may end at the first of them
abbrev pub cuts_none : Bool → List Stint → Bool
cuts_none weekly [] = true
cuts_none weekly (s ∷ ss) = (is_off s.mark || not weekly) && cuts_none (is_off s.mark && is_weekly s.kind) ss

-- the last weekly rest is the one before, and nothing is lost
pub record Uncut (c d : SinceWeeklyRestFields) (minutes : ℕ) : Type 0 where
  pub prev : d.prev_weekly ≡ c.prev_weekly
  pub whole : whole_of d ≡ whole_of c + minutes

uncut-carry : (c : SinceWeeklyRestFields) (s : Stint) (w : Bool) → (weekly_ends c ≡ true → w ≡ true) → (is_off s.mark || not w) ≡ true → Uncut c (carry c s) s.minutes
uncut-carry c s w i h =
    elim (cases_Bool (is_off s.mark)) [
      | inl o ↦ let e : carry c s ≡ add_off c s.minutes s.kind = rw o refl in record { prev = rw e refl; whole = rw e (omega arith) }
      | inr o ↦ let e : carry c s ≡ add_duty (end_off c) s.mark s.minutes = rw o refl in
          let no : weekly_ends c ≡ false = none o (weekly_ends c) refl in record {
            prev = rw (e, prev-add_duty (end_off c) s.mark s.minutes, prev-end_off c, no) refl;
            whole = rw (e, whole-add_duty (end_off c) s.mark s.minutes, whole-end_off c, no) refl;
          }
    ]
  where
    none : is_off s.mark ≡ false → (b : Bool) → weekly_ends c ≡ b → weekly_ends c ≡ false
    none o false e = e
    none o true e = let t = i e in grind arith

pub ends-carry : (c : SinceWeeklyRestFields) (s : Stint) → weekly_ends (carry c s) ≡ true → (is_off s.mark && is_weekly s.kind) ≡ true
ends-carry c s h =
    elim (cases_Bool (is_off s.mark)) [
      | inl o ↦ grind (arith, nat_tests)
      | inr o ↦ let e : carry c s ≡ add_duty (end_off c) s.mark s.minutes = rw o refl in
          let z = open-add_duty (end_off c) s.mark s.minutes ∙ open-end_off c in
          let no : weekly_ends (add_duty (end_off c) s.mark s.minutes) ≡ false = rw z refl in
          let bad : weekly_ends (add_duty (end_off c) s.mark s.minutes) ≡ true = rw e at h in cc
    ]

pub uncut-fold : (ss : List Stint) (c : SinceWeeklyRestFields) (w : Bool) → (weekly_ends c ≡ true → w ≡ true) → cuts_none w ss ≡ true →
    Uncut c (fold carry c ss) (total_of ss)
uncut-fold [] c w i h = record { prev = refl; whole = omega arith }
uncut-fold (s ∷ ss) c w i h =
    let first : (is_off s.mark || not w) ≡ true = grind arith in
    let more : cuts_none (is_off s.mark && is_weekly s.kind) ss ≡ true = grind arith in
    let one = uncut-carry c s w i first in
    let all = uncut-fold ss (carry c s) (is_off s.mark && is_weekly s.kind) (ends-carry c s) more in
    record {
      prev = all.prev ∙ one.prev;
      whole = let a = all.whole in let b = one.whole in omega (arith, sum_by-cons (λ (x : Stint). x.minutes) s ss);
    }

pub past-fold : (ss : List Stint) (c : SinceWeeklyRestFields) → each_lasts ss ≡ true → is_past false (all_stints c) ≡ true → is_past false (all_stints (fold carry c ss)) ≡ true
past-fold [] c l h = h
past-fold (s ∷ ss) c l h = past-fold ss (carry c s) (rest_lasts s ss l) (past-carry c s h (first_lasts s ss l))

-- no run is open after an on-duty stint
pub open-fold : (after : Bool) (ss : List Stint) (c : SinceWeeklyRestFields) → is_past after ss ≡ true → (after ≡ false → c.open_off ≡ 0) → (fold carry c ss).open_off ≡ 0
open-fold true [] c h i = cc
open-fold false [] c h i = i refl
open-fold after (s ∷ ss) c h i = open-fold (is_off s.mark) ss (carry c s) (grind arith) (λ (o : is_off s.mark ≡ false). rw o (open-add_duty (end_off c) s.mark s.minutes ∙ open-end_off c))

pub lasts-follows : (after : Bool) (ss : List Stint) → each_follows after ss ≡ true → each_lasts ss ≡ true
lasts-follows after [] h = refl
lasts-follows after (s ∷ ss) h = grind (arith, nat_tests, lasts-follows (is_off s.mark) ss)

pub lasts-line : (ss : List Stint) → is_line ss ≡ true → each_lasts ss ≡ true
lasts-line [] h = refl
lasts-line (s ∷ ss) h = grind (arith, nat_tests, lasts-follows (is_off s.mark) ss)

pub lasts-past : (after : Bool) (ss : List Stint) → is_past after ss ≡ true → each_lasts ss ≡ true
lasts-past after [] h = refl
lasts-past after (s ∷ ss) h = grind (arith, nat_tests, lasts-past (is_off s.mark) ss)

pub cuts-past : (after : Bool) (ss : List Stint) → is_past after ss ≡ true → cuts_none false ss ≡ true
cuts-past after [] h = refl
cuts-past after (s ∷ ss) h =
    let no : (is_off s.mark && is_weekly s.kind) ≡ false = grind arith in
    let more : cuts_none false ss ≡ true = grind (arith, cuts-past (is_off s.mark) ss) in
    rw (no, more) (grind arith)
