-- What is left of a line has the shape of a history's stints.
use Rattle.std.proofs.Common.{◌≡◌, ℕ, ◌+◌, ◌≤◌, Bool, true, false, leb, inl, inr, List, [], ◌∷◌, ◌++◌, refl, arith, nat_eq, le-leb, append_assoc}
use Rattle.std.proofs.lemmas.Bool.{cases_Bool}
use Rattle.std.proofs.lemmas.Bool.Decides.{nat_tests}
use Rattle.minute_line.specs.declared.marks.Mark.{Mark}
use Rattle.minute_line.specs.declared.marks.Mark.TheVariants.{Drive, Work, Ready, Off}
use Rattle.minute_line.specs.declared.marks.Kind.{Kind}
use Rattle.minute_line.specs.declared.marks.Stint.{Stint}
use Rattle.minute_line.specs.Marks.{is_off, is_weekly}
use Rattle.minute_line.specs.Stints.{is_past, is_line, each_follows}
use Rattle.driver_history.specs.Carrying.{SinceWeeklyRestFields, duty, rest, same_mark, no_line, all_stints, end_off, add_duty, carry}

pub is_past-append : (after : Bool) (xs ys : List Stint) → is_past after xs ≡ true → is_past false ys ≡ true → is_past after (xs ++ ys) ≡ true
is_past-append true [] ys h g = cc
is_past-append false [] ys h g = g
is_past-append after (x ∷ xs) ys h g = grind (arith, is_past-append (is_off x.mark) xs ys)

pub each-past : (after : Bool) (xs : List Stint) → is_past after xs ≡ true → each_follows after xs ≡ true
each-past after [] h = refl
each-past after (x ∷ xs) h = grind (arith, each-past (is_off x.mark) xs)

-- a history's stints are a line
pub line-past : (xs : List Stint) → is_past false xs ≡ true → is_line xs ≡ true
line-past [] h = refl
line-past (x ∷ xs) h = grind (arith, each-past (is_off x.mark) xs)

pub past-duty : (m : Mark) (n : ℕ) → is_off m ≡ false → 1 ≤ n → is_past false (duty m n ∷ []) ≡ true
past-duty m n d h = let l : leb 1 n ≡ true = le-leb 1 n h in rw (d, l) refl

pub past-rest : (k : ℕ) (kind : Kind) (m : Mark) (n : ℕ) → is_weekly kind ≡ false → 1 ≤ k → is_off m ≡ false → 1 ≤ n →
    is_past false (rest k kind ∷ duty m n ∷ []) ≡ true
past-rest k kind m n w g d h = let l : leb 1 k ≡ true = le-leb 1 k g in let j : leb 1 n ≡ true = le-leb 1 n h in rw (w, d, l, j) refl

-- a block may grow
grow-past : (after : Bool) (xs : List Stint) (m : Mark) (k n : ℕ) → is_past after (xs ++ duty m k ∷ []) ≡ true → k ≤ n →
    is_past after (xs ++ duty m n ∷ []) ≡ true
grow-past after [] m k n h l = grind (arith, nat_tests)
grow-past after (x ∷ xs) m k n h l = grind (arith, grow-past (is_off x.mark) xs m k n)

pub same_is : (a b : Mark) → same_mark a b ≡ true → a ≡ b
same_is Drive Drive h = refl
same_is Drive Work h = cc
same_is Drive Ready h = cc
same_is Drive Off h = cc
same_is Work Drive h = cc
same_is Work Work h = refl
same_is Work Ready h = cc
same_is Work Off h = cc
same_is Ready Drive h = cc
same_is Ready Work h = cc
same_is Ready Ready h = refl
same_is Ready Off h = cc
same_is Off Drive h = cc
same_is Off Work h = cc
same_is Off Ready h = cc
same_is Off Off h = refl

pub some_minutes : (n : ℕ) → 1 ≤ n → nat_eq n 0 ≡ false
some_minutes n h = grind (arith, nat_tests)

pub no_minutes : (n : ℕ) → nat_eq n 0 ≡ true → n ≡ 0
no_minutes n h = grind (arith, nat_tests)

pub is_some : (n : ℕ) → nat_eq n 0 ≡ false → 1 ≤ n
is_some n h = grind (arith, nat_tests)

-- the first block after a rest
pub all-after_rest : (d : SinceWeeklyRestFields) (m : Mark) (n : ℕ) → d.minutes ≡ 0 → 1 ≤ n → all_stints (add_duty d m n) ≡ d.stints ++ duty m n ∷ []
all-after_rest d m n z h =
    let some : nat_eq n 0 ≡ false = some_minutes n h in
    let sum : d.minutes + n ≡ n = omega arith in
    let none : nat_eq d.minutes 0 ≡ true = rw z refl in
    elim (cases_Bool (same_mark d.mark m)) [
      | inl t ↦ rw (t, sum, some) refl
      | inr f ↦ rw (f, some, none) refl
    ]

past-add_duty : (c : SinceWeeklyRestFields) (m : Mark) (n : ℕ) → is_past false (all_stints c) ≡ true → is_off m ≡ false → 1 ≤ n →
    is_past false (all_stints (add_duty c m n)) ≡ true
past-add_duty c m n h d l =
    elim (cases_Bool (nat_eq c.minutes 0)) [
      | inl z ↦ rw (all-after_rest c m n (no_minutes c.minutes z) l)
          (is_past-append false c.stints (duty m n ∷ []) (rw z at h) (past-duty m n d l))
      | inr f ↦ by_mark f (same_mark c.mark m) refl
    ]
  where
    by_mark : nat_eq c.minutes 0 ≡ false → (b : Bool) → same_mark c.mark m ≡ b → is_past false (all_stints (add_duty c m n)) ≡ true
    by_mark f true e =
        let is : c.mark ≡ m = same_is c.mark m e in
        let more : nat_eq (c.minutes + n) 0 ≡ false = some_minutes (c.minutes + n) (omega arith) in
        let was : is_past false (c.stints ++ duty c.mark c.minutes ∷ []) ≡ true = rw f at h in
        rw (e, more) (grow-past false c.stints m c.minutes (c.minutes + n) (rw is at was) (omega arith))
    by_mark f false e =
        let some : nat_eq n 0 ≡ false = some_minutes n l in
        rw (e, some) (is_past-append false (all_stints c) (duty m n ∷ []) h (past-duty m n d l))

pub past-duty_after : (c : SinceWeeklyRestFields) (m : Mark) (n : ℕ) → is_past false (all_stints c) ≡ true → is_off m ≡ false → 1 ≤ n →
    is_past false (all_stints (add_duty (end_off c) m n)) ≡ true
past-duty_after c m n h d l =
    elim (cases_Bool (nat_eq c.open_off 0)) [
      | inl z ↦ rw z (past-add_duty c m n h d l)
      | inr f ↦ by_kind f (is_weekly c.declared) refl
    ]
  where
    by_kind : nat_eq c.open_off 0 ≡ false → (b : Bool) → is_weekly c.declared ≡ b → is_past false (all_stints (add_duty (end_off c) m n)) ≡ true
    by_kind f true e = rw (f, e, all-after_rest (no_line c.open_off) m n refl l) (past-duty m n d l)
    by_kind f false e =
        let next : SinceWeeklyRestFields = record (no_line c.prev_weekly) { stints = all_stints c ++ rest c.open_off c.declared ∷ [] } in
        rw (f, e, all-after_rest next m n refl l, append_assoc)
        (is_past-append false (all_stints c) (rest c.open_off c.declared ∷ duty m n ∷ []) h
        (past-rest c.open_off c.declared m n e (is_some c.open_off f) d l))

pub past-carry : (c : SinceWeeklyRestFields) (s : Stint) → is_past false (all_stints c) ≡ true → (is_off s.mark ≡ false → 1 ≤ s.minutes) →
    is_past false (all_stints (carry c s)) ≡ true
past-carry c s h l =
    elim (cases_Bool (is_off s.mark)) [
      | inl t ↦ rw t h
      | inr f ↦ rw f (past-duty_after c s.mark s.minutes h f (l f))
    ]
