-- What is left of a line follows the line's clock, stint by stint.
use Rattle.std.proofs.Common.{◌≡◌, ℕ, ◌+◌, ◌≤◌, Bool, true, false, cond, not, ◌&&◌, ◌||◌, leb, inl, inr, List, [], ◌∷◌, ◌++◌, refl, fold, arith, nat_eq, sym, subst, ap, ◌∙◌, None}
use Rattle.std.proofs.lemmas.Bool.{cases_Bool}
use Rattle.std.proofs.lemmas.Bool.Decides.{nat_tests}
use Rattle.std.proofs.lemmas.List.Sums.{sum_by-cons}
use Rattle.minute_line.specs.declared.marks.Mark.{Mark}
use Rattle.minute_line.specs.declared.marks.Kind.{Kind}
use Rattle.minute_line.specs.declared.marks.Kind.TheVariants.{Plain, Weekly}
use Rattle.minute_line.specs.declared.marks.Stint.{Stint}
use Rattle.minute_line.specs.Marks.{is_off, is_weekly}
use Rattle.minute_line.specs.Minutes.{Reached, add_stint, total_of}
use Rattle.hours_rules.specs.declared.clocks.Clock.{Clock}
use Rattle.hours_rules.specs.Rules.{Past, fault}
use Rattle.hours_rules.specs.Standing.{Stands}
use Rattle.hours_rules.specs.Debts.{Debt}
use Rattle.hours_rules.specs.Machine.{run_ended, ticked, rested, weekly_here}
use Rattle.driver_history.specs.Carrying.{SinceWeeklyRestFields, rest, same_mark, no_line, all_stints, add_off, end_off, add_duty, carry}
use Rattle.driver_history.specs.Keeping.{KeepsHistoryBounds, held}
use Rattle.driver_history.proofs.Carry.{weekly_ends, carry_small, open-add_duty, prev-add_duty, prev-end_off, declared-add_duty}
use Rattle.driver_history.proofs.Shapes.{same_is, some_minutes, no_minutes, all-after_rest}
use Rattle.driver_history.proofs.Watching.{Tracks, tracks-carry, after_block, declared_after, watch, declared_by, each_lasts, first_lasts, rest_lasts, Lasts, stands-stint, declared-add_stint}
use Rattle.driver_history.proofs.Bounds.{kept-carry, none_before, weekly_kind}
use Rattle.driver_history.proofs.Pasts.{cuts_none, ends-carry}
use Rattle.driver_history.proofs.OwedClocks.{debt_in, begun_after, begun_by}
use Rattle.driver_history.proofs.Shifting.{shifted-trans, shifted-rested, rested-rested, shifted-duty}
use Rattle.driver_history.proofs.Closing.{closed_by, closed_clock, closed-duty, closed-rest, declared-append, fresh-shift, Follows, follows-closed, follows-next, follows-join}

-- a block where no run is open
follows-block : (c : SinceWeeklyRestFields) (w : ℕ) (k : Clock) (d : Kind) (m : Mark) (n : ℕ) → is_off m ≡ false → 1 ≤ n → Follows c w k d → c.open_off ≡ 0 →
    Follows (add_duty c m n) w (ticked (run_ended k d) m n) Plain
follows-block c w k d m n f l h z =
    elim (cases_Bool (nat_eq c.minutes 0)) [
      | inl none ↦ follows-next c (add_duty c m n) w k d m n f h z (prev-add_duty c m n)
          (all-after_rest c m n (no_minutes c.minutes none) l ∙ rw none refl) (open-add_duty c m n ∙ z) (declared-add_duty c m n)
      | inr some ↦ by_mark some (same_mark c.mark m) refl
    ]
  where
    by_mark : nat_eq c.minutes 0 ≡ false → (b : Bool) → same_mark c.mark m ≡ b → Follows (add_duty c m n) w (ticked (run_ended k d) m n) Plain
    by_mark some true e =
        let is : c.mark ≡ m = same_is c.mark m e in
        let more : nat_eq (c.minutes + n) 0 ≡ false = some_minutes (c.minutes + n) (omega arith) in
        follows-join c (add_duty c m n) w k d m n f h z (prev-add_duty c m n) (rw (some, is) refl) (rw (e, more) refl) (open-add_duty c m n ∙ z) (declared-add_duty c m n)
    by_mark some false e =
        let one : nat_eq n 0 ≡ false = some_minutes n l in
        follows-next c (add_duty c m n) w k d m n f h z (prev-add_duty c m n) (rw (e, one) refl) (open-add_duty c m n ∙ z) (declared-add_duty c m n)

-- a block after a weekly rest
follows-weekly : (c : SinceWeeklyRestFields) (k : Clock) (m : Mark) (n : ℕ) → is_off m ≡ false → 1 ≤ n → c.open_off ≡ k.off → 1440 ≤ c.open_off →
    Follows (add_duty (no_line c.open_off) m n) (run_ended k Weekly).owed (ticked (run_ended k Weekly) m n) Plain
follows-weekly c k m n f l e o =
    follows-closed (add_duty (no_line c.open_off) m n) (run_ended k Weekly).owed _ (ticked (run_ended (closed_by c.open_off (run_ended k Weekly).owed []) Plain) m n)
    (rw (prev-add_duty (no_line c.open_off) m n, all-after_rest (no_line c.open_off) m n refl l) (closed-duty c.open_off (run_ended k Weekly).owed [] m n f))
    (open-add_duty (no_line c.open_off) m n) (declared-add_duty (no_line c.open_off) m n) refl
    (fresh-shift k c.open_off m n e (omega arith))

-- a block after another off run
follows-rest : (c : SinceWeeklyRestFields) (w : ℕ) (k : Clock) (d : Kind) (m : Mark) (n : ℕ) → is_off m ≡ false → 1 ≤ n → Follows c w k d →
    Follows (add_duty (record (no_line c.prev_weekly) { stints = all_stints c ++ rest c.open_off c.declared ∷ [] }) m n) w (ticked (run_ended k d) m n) Plain
follows-rest c w k d m n f l h =
    let e : SinceWeeklyRestFields = record (no_line c.prev_weekly) { stints = all_stints c ++ rest c.open_off c.declared ∷ [] } in
    let all : List Stint = all_stints c ++ rest c.open_off c.declared ∷ [] in
    let kind : declared_by Plain all ≡ d = declared-append (all_stints c) (rest c.open_off c.declared ∷ []) Plain ∙ sym h.kind in
    let run : closed_by c.prev_weekly w all ≡ rested (closed_clock c w) c.open_off = closed-rest c.prev_weekly w (all_stints c) c.open_off c.declared in
    follows-closed (add_duty e m n) w _ (ticked (run_ended (closed_by c.prev_weekly w all) (declared_by Plain all)) m n)
    (rw (prev-add_duty e m n, all-after_rest e m n refl l) (closed-duty c.prev_weekly w all m n f))
    (open-add_duty e m n) (declared-add_duty e m n) refl
    (rw (kind, run) (shifted-duty (rested (closed_clock c w) c.open_off) k d m n h.shift))

-- the weekly rest that ends in what is left is the clock's
weekly_same : (c : SinceWeeklyRestFields) (w : ℕ) (k : Clock) (d : Kind) → Follows c w k d → weekly_here k d ≡ weekly_ends c
weekly_same c w k d h =
    let run : k.off ≡ c.open_off = let a = h.shift.off in let b = h.none in omega arith in rw (run, h.kind) refl

-- what is owed where the line that is left begins
abbrev begun_owed : ℕ → Clock → Kind → ℕ
begun_owed w k d = cond (weekly_here k d) (run_ended k d).owed w

follows-duty : (c : SinceWeeklyRestFields) (w : ℕ) (k : Clock) (d : Kind) (m : Mark) (n : ℕ) → is_off m ≡ false → 1 ≤ n → Follows c w k d →
    (weekly_ends c ≡ true → 1440 ≤ c.open_off) → Follows (add_duty (end_off c) m n) (begun_owed w k d) (ticked (run_ended k d) m n) Plain
follows-duty c w k d m n f l h o =
    elim (cases_Bool (nat_eq c.open_off 0)) [
      | inl z ↦
          let zero_run : leb 1 c.open_off ≡ false = grind (arith, nat_tests) in
          let none : weekly_here k d ≡ false = weekly_same c w k d h ∙ rw zero_run refl in
          begins w none (rw z (follows-block c w k d m n f l h (no_minutes c.open_off z)))
      | inr some ↦ by_kind some (is_weekly c.declared) refl
    ]
  where
    begins : (x : ℕ) → weekly_here k d ≡ false → Follows (add_duty (end_off c) m n) x (ticked (run_ended k d) m n) Plain →
        Follows (add_duty (end_off c) m n) (begun_owed x k d) (ticked (run_ended k d) m n) Plain
    begins x none g =
        let same : x ≡ begun_owed x k d = sym (ap (λ (t : Bool). cond t (run_ended k d).owed x) none) in subst (λ (y : ℕ). Follows (add_duty (end_off c) m n) y (ticked (run_ended k d) m n) Plain) same g

    begins_here : weekly_here k d ≡ true → Follows (add_duty (end_off c) m n) (run_ended k d).owed (ticked (run_ended k d) m n) Plain →
        Follows (add_duty (end_off c) m n) (begun_owed w k d) (ticked (run_ended k d) m n) Plain
    begins_here here g =
        let same : begun_owed w k d ≡ (run_ended k d).owed = ap (λ (t : Bool). cond t (run_ended k d).owed w) here in
        subst (λ (y : ℕ). Follows (add_duty (end_off c) m n) y (ticked (run_ended k d) m n) Plain) (sym same) g

    by_kind : nat_eq c.open_off 0 ≡ false → (b : Bool) → is_weekly c.declared ≡ b →
        Follows (add_duty (end_off c) m n) (begun_owed w k d) (ticked (run_ended k d) m n) Plain
    by_kind some false e =
        let one : leb 1 c.open_off ≡ true = grind (arith, nat_tests) in
        let none : weekly_here k d ≡ false = weekly_same c w k d h ∙ rw (one, e) refl in
        begins w none (rw (some, e) (follows-rest c w k d m n f l h))
    by_kind some true e =
        let one : leb 1 c.open_off ≡ true = grind (arith, nat_tests) in
        let ends : weekly_ends c ≡ true = rw (one, e) refl in
        let here : weekly_here k d ≡ true = weekly_same c w k d h ∙ ends in
        let is : d ≡ Weekly = h.kind ∙ weekly_kind c.declared e in
        let run : c.open_off ≡ k.off = let a = h.shift.off in let b = h.none in omega arith in
        begins_here here (rw (some, e, is) (follows-weekly c k m n f l run (o ends)))

pub follows-off : (c : SinceWeeklyRestFields) (w : ℕ) (k : Clock) (d kind : Kind) (n : ℕ) → Follows c w k d → Follows (add_off c n kind) w (rested k n) kind
follows-off c w k d kind n h = record {
  shift = shifted-trans _ _ _ (rested-rested (closed_clock c w) c.open_off n) (shifted-rested (rested (closed_clock c w) c.open_off) k n n refl h.shift);
  kind = refl;
  none = h.none;
}

owed-begun : (b : Debt) (k : Clock) (here : Bool) (d : Kind) → (cond here (debt_in (run_ended k d)) b).owed ≡ cond here (run_ended k d).owed b.owed
owed-begun b k true d = refl
owed-begun b k false d = refl

pub follows-carry : (c : SinceWeeklyRestFields) (b : Debt) (k : Clock) (d : Kind) (s : Stint) → Lasts s → Follows c b.owed k d →
    (is_off s.mark ≡ false → weekly_ends c ≡ true → 1440 ≤ c.open_off) →
    Follows (carry c s) (begun_after b k d s).owed (after_block k d s.mark s.minutes) (declared_after s)
follows-carry c b k d s l h o =
    elim (cases_Bool (is_off s.mark)) [
      | inl t ↦ rw t (follows-off c b.owed k d s.kind s.minutes h)
      | inr f ↦ rw (f, owed-begun b k (weekly_here k d) d) (follows-duty c b.owed k d s.mark s.minutes f (l f) h (o f))
    ]

-- each weekly rest that ends in the stints has its length
abbrev pub RestsLong : SinceWeeklyRestFields → List Stint → Type 0
RestsLong c [] = Unit {0}
RestsLong c (s ∷ ss) = (is_off s.mark ≡ false → weekly_ends c ≡ true → 1440 ≤ c.open_off) × RestsLong (carry c s) ss

pub follows-fold : (ss : List Stint) (c : SinceWeeklyRestFields) (b : Debt) (k : Clock) (d : Kind) → each_lasts ss ≡ true → RestsLong c ss →
    Follows c b.owed k d → Follows (fold carry c ss) (begun_by b k d ss).owed (watch k d ss) (declared_by d ss)
follows-fold [] c b k d l r h = h
follows-fold (s ∷ ss) c b k d l (first, more) h =
    follows-fold ss (carry c s) (begun_after b k d s) _ _ (rest_lasts s ss l) more (follows-carry c b k d s (first_lasts s ss l) h first)

-- no weekly rest ends
pub rests-uncut : (ss : List Stint) (c : SinceWeeklyRestFields) (w : Bool) → (weekly_ends c ≡ true → w ≡ true) → cuts_none w ss ≡ true → RestsLong c ss
rests-uncut [] c w i h = tt
rests-uncut (s ∷ ss) c w i h = (
  (λ (o : is_off s.mark ≡ false) (e : weekly_ends c ≡ true). let t = i e in absurd (never w o t)),
  rests-uncut ss (carry c s) (is_off s.mark && is_weekly s.kind) (ends-carry c s) (grind arith),
)
  where
    never : (b : Bool) → is_off s.mark ≡ false → w ≡ true → ⊥
    never b o t = let first : (is_off s.mark || not w) ≡ true = grind arith in let bad : (is_off s.mark || not w) ≡ false = rw (o, t) refl in cc

long-rest : (c : SinceWeeklyRestFields) (s : Stint) → KeepsHistoryBounds (carry c s) → is_off s.mark ≡ false → weekly_ends c ≡ true → 1440 ≤ c.open_off
long-rest c s kept o e =
    let next : carry c s ≡ add_duty (end_off c) s.mark s.minutes = rw o refl in
    let prev : (carry c s).prev_weekly ≡ c.open_off = rw (next, prev-add_duty (end_off c) s.mark s.minutes, prev-end_off c, e) refl in
    rw prev at kept.rest

-- a lawful line
pub rests-lawful : (past : Past) (ss : List Stint) (c : SinceWeeklyRestFields) (k : Clock) (d : Kind) (r : Reached) → each_lasts ss ≡ true → r.declared ≡ d →
    Stands k past r.minutes → Tracks c k d → KeepsHistoryBounds c → held c + total_of ss ≤ 1000000 → fault past (fold add_stint r ss).minutes ≡ None → RestsLong c ss
rests-lawful past [] c k d r l e st t kept o h = tt
rests-lawful past (s ∷ ss) c k d r l e st t kept o h =
    let sum = sum_by-cons (λ (x : Stint). x.minutes) s ss in
    let small = carry_small c s in
    let now = none_before past ss (add_stint r s) h in
    let next = kept-carry past c k d r s (first_lasts s ss l) e st t kept (omega arith) now in (
      long-rest c s next,
      rests-lawful past ss (carry c s) _ _ (add_stint r s) (rest_lasts s ss l) (declared-add_stint s r)
          (stands-stint k past r d s e (first_lasts s ss l) st) (tracks-carry c k d s t) next (omega (arith, small, sum)) h,
    )
