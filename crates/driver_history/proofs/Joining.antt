-- Stints that were carried on once are carried on as they are.
use Rattle.std.proofs.Common.{◌≡◌, ℕ, ◌+◌, ◌≤◌, Bool, true, false, cond, inl, inr, List, [], ◌∷◌, ◌++◌, refl, fold, arith, nat_eq, sym, ◌∙◌, ap}
use Rattle.std.proofs.lemmas.Bool.{cases_Bool}
use Rattle.std.proofs.lemmas.List.Sums.{fold-append}
use Rattle.minute_line.specs.declared.marks.Mark.{Mark}
use Rattle.minute_line.specs.declared.marks.Kind.{Kind}
use Rattle.minute_line.specs.declared.marks.Kind.TheVariants.{Plain}
use Rattle.minute_line.specs.declared.marks.Stint.{Stint}
use Rattle.minute_line.specs.Marks.{is_off, is_weekly}
use Rattle.driver_history.specs.Carrying.{SinceWeeklyRestFields, duty, rest, same_mark, no_line, all_stints, add_off, end_off, add_duty, carry}
use Rattle.driver_history.proofs.Shapes.{same_is, no_minutes, is_some}
use Rattle.driver_history.proofs.Watching.{Lasts, each_lasts, first_lasts, rest_lasts}

-- the line since the last weekly rest, with this block at its end
abbrev pub with_block : ℕ → List Stint → Mark → ℕ → SinceWeeklyRestFields
with_block weekly stints mark minutes = record (no_line weekly) { stints = stints; mark = mark; minutes = minutes }

-- the stints with any block at their end, carried on once more, are these stints and this block
pub record Joined (c : SinceWeeklyRestFields) : Type 0 where
  pub again : (k : ℕ) → 1 ≤ k → fold carry (no_line c.prev_weekly) (c.stints ++ duty c.mark k ∷ []) ≡ with_block c.prev_weekly c.stints c.mark k
  pub empty : c.minutes ≡ 0 → c.stints ≡ []

-- the first block after a rest
fresh-duty : (c : SinceWeeklyRestFields) (m : Mark) (n : ℕ) → c.minutes ≡ 0 → add_duty c m n ≡ record c { mark = m; minutes = n; declared = Plain }
fresh-duty c m n z =
    let sum : c.minutes + n ≡ n = omega arith in
    let none : nat_eq c.minutes 0 ≡ true = rw z refl in
    elim (cases_Bool (same_mark c.mark m)) [
      | inl t ↦ rw (t, sum) refl
      | inr f ↦ rw (f, none) refl
    ]

carry-duty : (c : SinceWeeklyRestFields) (m : Mark) (n : ℕ) → is_off m ≡ false → carry c (duty m n) ≡ add_duty (end_off c) m n
carry-duty c m n f = rw f refl

fold-last : (c : SinceWeeklyRestFields) (xs : List Stint) (s : Stint) → fold carry c (xs ++ s ∷ []) ≡ carry (fold carry c xs) s
fold-last c xs s = fold-append carry c xs (s ∷ [])

-- a block after a weekly rest
joined-first : (weekly : ℕ) (m : Mark) (n : ℕ) → is_off m ≡ false → 1 ≤ n → Joined (with_block weekly [] m n)
joined-first weekly m n f l = record {
  again = λ (k : ℕ) (h : 1 ≤ k). carry-duty (no_line weekly) m k f ∙ fresh-duty (no_line weekly) m k refl;
  empty = λ (z : n ≡ 0). absurd (omega arith);
}

-- what the stints give once more
pub rerun_of : SinceWeeklyRestFields → SinceWeeklyRestFields
rerun_of c = cond (nat_eq c.minutes 0) (no_line c.prev_weekly) (with_block c.prev_weekly c.stints c.mark c.minutes)

pub rerun : (c : SinceWeeklyRestFields) → Joined c → fold carry (no_line c.prev_weekly) (all_stints c) ≡ rerun_of c
unfolding rerun_of
rerun c j =
    elim (cases_Bool (nat_eq c.minutes 0)) [
      | inl z ↦ rw (z, j.empty (no_minutes c.minutes z)) refl
      | inr f ↦ rw f (j.again c.minutes (is_some c.minutes f))
    ]

pub all-rerun : (c : SinceWeeklyRestFields) → Joined c → all_stints (rerun_of c) ≡ all_stints c
unfolding rerun_of
all-rerun c j =
    elim (cases_Bool (nat_eq c.minutes 0)) [
      | inl z ↦ rw (z, j.empty (no_minutes c.minutes z)) refl
      | inr f ↦ rw (f, f) refl
    ]

pub prev-rerun : (c : SinceWeeklyRestFields) → (rerun_of c).prev_weekly ≡ c.prev_weekly
unfolding rerun_of
prev-rerun c =
    elim (cases_Bool (nat_eq c.minutes 0)) [
      | inl z ↦ rw z refl
      | inr f ↦ rw f refl
    ]

pub open-rerun : (c : SinceWeeklyRestFields) → (rerun_of c).open_off ≡ 0
unfolding rerun_of
open-rerun c =
    elim (cases_Bool (nat_eq c.minutes 0)) [
      | inl z ↦ rw z refl
      | inr f ↦ rw f refl
    ]

-- a block of another mark
joined-next : (c : SinceWeeklyRestFields) (m : Mark) (n : ℕ) → Joined c → is_off m ≡ false → 1 ≤ n → nat_eq c.minutes 0 ≡ false → same_mark c.mark m ≡ false →
    Joined (with_block c.prev_weekly (all_stints c) m n)
joined-next c m n j f l some other =
    let block : fold carry (no_line c.prev_weekly) (all_stints c) ≡ with_block c.prev_weekly c.stints c.mark c.minutes =
    rw some (j.again c.minutes (is_some c.minutes some)) in record {
      again = λ (k : ℕ) (h : 1 ≤ k). fold-last (no_line c.prev_weekly) (all_stints c) (duty m k)
          ∙ ap (λ x. carry x (duty m k)) block
          ∙ carry-duty (with_block c.prev_weekly c.stints c.mark c.minutes) m k f
          ∙ rw other refl;
      empty = λ (z : n ≡ 0). absurd (omega arith);
    }

-- a block after an off run that is no weekly rest
end-plain : (c : SinceWeeklyRestFields) (o : ℕ) (kind : Kind) → c.open_off ≡ 0 → nat_eq o 0 ≡ false → is_weekly kind ≡ false →
    end_off (add_off c o kind) ≡ record (no_line c.prev_weekly) { stints = all_stints c ++ rest o kind ∷ [] }
end-plain c o kind z some w =
    let sum : c.open_off + o ≡ o = omega arith in rw (sum, some, w) refl

joined-rest : (c : SinceWeeklyRestFields) (m : Mark) (n o : ℕ) (kind : Kind) → Joined c → is_off m ≡ false → 1 ≤ n → nat_eq o 0 ≡ false → is_weekly kind ≡ false →
    Joined (with_block c.prev_weekly (all_stints c ++ rest o kind ∷ []) m n)
joined-rest c m n o kind j f l some w = record {
  again = λ (k : ℕ) (h : 1 ≤ k). fold-last (no_line c.prev_weekly) (all_stints c ++ rest o kind ∷ []) (duty m k)
      ∙ ap (λ x. carry x (duty m k)) (fold-last (no_line c.prev_weekly) (all_stints c) (rest o kind) ∙ ap (λ x. carry x (rest o kind)) (rerun c j))
      ∙ carry-duty (add_off (rerun_of c) o kind) m k f
      ∙ ap (λ x. add_duty x m k) (end-plain (rerun_of c) o kind (open-rerun c) some w)
      ∙ rw (prev-rerun c, all-rerun c j) (fresh-duty (record (no_line c.prev_weekly) { stints = all_stints c ++ rest o kind ∷ [] }) m k refl);
  empty = λ (z : n ≡ 0). absurd (omega arith);
}

-- what matters of it
same_joined : (c d : SinceWeeklyRestFields) → c.prev_weekly ≡ d.prev_weekly → c.stints ≡ d.stints → c.mark ≡ d.mark → c.minutes ≡ d.minutes → Joined c → Joined d
same_joined c d p s m n j = record {
  again = λ (k : ℕ) (h : 1 ≤ k). rw (← p, ← s, ← m) (j.again k h);
  empty = λ (z : d.minutes ≡ 0). sym s ∙ j.empty (n ∙ z);
}

joined-add_duty : (c : SinceWeeklyRestFields) (m : Mark) (n : ℕ) → Joined c → is_off m ≡ false → 1 ≤ n → Joined (add_duty c m n)
joined-add_duty c m n j f l =
    elim (cases_Bool (nat_eq c.minutes 0)) [
      | inl z ↦ let e = fresh-duty c m n (no_minutes c.minutes z) in
          rw e (same_joined (with_block c.prev_weekly [] m n) _ refl (sym (j.empty (no_minutes c.minutes z))) refl refl (joined-first c.prev_weekly m n f l))
      | inr some ↦ by_mark some (same_mark c.mark m) refl
    ]
  where
    by_mark : nat_eq c.minutes 0 ≡ false → (b : Bool) → same_mark c.mark m ≡ b → Joined (add_duty c m n)
    by_mark some true e = rw e (record {
      again = let is : c.mark ≡ m = same_is c.mark m e in rw is at j.again;
      empty = λ (z : c.minutes + n ≡ 0). absurd (omega arith);
    })
    by_mark some false e = rw e (same_joined (with_block c.prev_weekly (all_stints c) m n) _ refl refl refl refl (joined-next c m n j f l some e))

joined-duty : (c : SinceWeeklyRestFields) (m : Mark) (n : ℕ) → Joined c → is_off m ≡ false → 1 ≤ n → Joined (add_duty (end_off c) m n)
joined-duty c m n j f l =
    elim (cases_Bool (nat_eq c.open_off 0)) [
      | inl z ↦ rw z (joined-add_duty c m n j f l)
      | inr some ↦ by_kind some (is_weekly c.declared) refl
    ]
  where
    by_kind : nat_eq c.open_off 0 ≡ false → (b : Bool) → is_weekly c.declared ≡ b → Joined (add_duty (end_off c) m n)
    by_kind some true e = rw (some, e, fresh-duty (no_line c.open_off) m n refl) (joined-first c.open_off m n f l)
    by_kind some false e =
        rw (some, e, fresh-duty (record (no_line c.prev_weekly) { stints = all_stints c ++ rest c.open_off c.declared ∷ [] }) m n refl)
        (joined-rest c m n c.open_off c.declared j f l some e)

pub joined-carry : (c : SinceWeeklyRestFields) (s : Stint) → Joined c → Lasts s → Joined (carry c s)
joined-carry c s j l =
    elim (cases_Bool (is_off s.mark)) [
      | inl t ↦ rw t (record { again = j.again; empty = j.empty })
      | inr f ↦ rw f (joined-duty c s.mark s.minutes j f (l f))
    ]

joined-none : (weekly : ℕ) → Joined (no_line weekly)
joined-none weekly = record {
  again = λ (k : ℕ) (h : 1 ≤ k). let sum : 0 + k ≡ k = omega arith in rw sum refl;
  empty = λ z. refl;
}

joined-from : (ss : List Stint) (c : SinceWeeklyRestFields) → Joined c → each_lasts ss ≡ true → Joined (fold carry c ss)
joined-from [] c j l = j
joined-from (s ∷ ss) c j l = joined-from ss (carry c s) (joined-carry c s j (first_lasts s ss l)) (rest_lasts s ss l)

pub joined-fold : (weekly : ℕ) (ss : List Stint) → each_lasts ss ≡ true → Joined (fold carry (no_line weekly) ss)
joined-fold weekly ss l = joined-from ss (no_line weekly) (joined-none weekly) l
