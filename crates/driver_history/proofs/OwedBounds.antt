-- What is owed after a lawful week is what a history may state.
use Rattle.std.proofs.Common.{◌≡◌, ◌+◌, ◌≤◌, Bool, true, false, not, ◌&&◌, ◌||◌, cond, List, [], ◌∷◌, fold, refl, arith, ◌∙◌, inl, inr, None}
use Rattle.std.proofs.lemmas.Bool.{cases_Bool}
use Rattle.std.proofs.lemmas.Bool.Decides.{nat_tests}
use Rattle.std.proofs.lemmas.List.Sums.{sum_by-cons}
use Rattle.minute_line.specs.declared.marks.Stint.{Stint}
use Rattle.minute_line.specs.declared.lines.Line.{Line}
use Rattle.minute_line.specs.declared.lines.History.{History}
use Rattle.minute_line.specs.Marks.{is_off, is_weekly}
use Rattle.minute_line.specs.Minutes.{total_of}
use Rattle.minute_line.specs.Histories.{fields_of}
use Rattle.hours_rules.specs.Rules.{fault}
use Rattle.hours_rules.specs.Verdicts.{past_of, week_minutes}
use Rattle.driver_history.specs.declared.owing.Owed.{Owed}
use Rattle.driver_history.specs.declared.owing.Owing.{Owing}
use Rattle.driver_history.specs.Carrying.{SinceWeeklyRestFields, no_line, carry, end_off}
use Rattle.driver_history.specs.Owing.{ends_as_weekly, ends_as_paying, ends_as_owing, owed_now, owed_after, owe_stint, owing_from, owing_on_monday, owed_left, weeks_later}
use Rattle.driver_history.proofs.Carry.{weekly_ends, open-add_duty, open-end_off, declared-add_duty}
use Rattle.driver_history.proofs.Pasts.{cuts_none, cuts-past}
use Rattle.driver_history.proofs.Weeks.{monday_left}
use Rattle.driver_history.proofs.Following.{RestsLong}
use Rattle.driver_history.proofs.Ending.{rests-week}

-- the debts are ones that a lawful line can leave
record IsSmall (o : Owing) : Type 0 where
  owed : o.debt.owed ≤ 1260
  due : o.debt.due ≤ 4
  begun : o.begun.owed ≤ 1260
  begun_due : o.begun.due ≤ 4

-- each weekly rest that ends in the stints is long enough, and ends within the week
abbrev Fits : Owing → List Stint → Type 0
Fits o [] = Unit {0}
Fits o (s ∷ ss) = (is_off s.mark ≡ false → ends_as_weekly o ≡ true → (1440 ≤ o.off) × (o.at ≤ 10080)) × Fits (owe_stint o s) ss

small_by_tests : (pays owes : Bool) (x y : Owed) → (owes ≡ true → (x.owed ≤ 1260) × (x.due ≤ 4)) → y.owed ≤ 1260 → y.due ≤ 4 →
    ((cond pays (record { owed = 0; due = 0 }) (cond owes x y)).owed ≤ 1260) × ((cond pays (record { owed = 0; due = 0 }) (cond owes x y)).due ≤ 4)
small_by_tests true owes x y h m n = (omega arith, omega arith)
small_by_tests false true x y h m n = h refl
small_by_tests false false x y h m n = (m, n)

owes-weekly : (o : Owing) → ends_as_owing o ≡ true → ends_as_weekly o ≡ true
owes-weekly o h = grind arith

small-after : (o : Owing) → (ends_as_weekly o ≡ true → (1440 ≤ o.off) × (o.at ≤ 10080)) → IsSmall o → ((owed_after o).owed ≤ 1260) × ((owed_after o).due ≤ 4)
small-after o f h =
    small_by_tests (ends_as_paying o) (ends_as_owing o) (owed_now o) o.debt
    (λ e. let both = f (owes-weekly o e) in let long = both.0 in let soon = both.1 in (omega arith, omega arith)) h.owed h.due

small-stint : (o : Owing) (s : Stint) → (is_off s.mark ≡ false → ends_as_weekly o ≡ true → (1440 ≤ o.off) × (o.at ≤ 10080)) → IsSmall o → IsSmall (owe_stint o s)
small-stint o s f h =
    elim (cases_Bool (is_off s.mark)) [
      | inl t ↦ rw t (record { owed = h.owed; due = h.due; begun = h.begun; begun_due = h.begun_due })
      | inr e ↦ let after = small-after o (f e) h in rw e (record {
        owed = after.0;
        due = after.1;
        begun = owed_of (ends_as_weekly o) (owed_after o) o.begun after.0 h.begun;
        begun_due = due_of (ends_as_weekly o) (owed_after o) o.begun after.1 h.begun_due;
      })
    ]
  where
    owed_of : (b : Bool) (x y : Owed) → x.owed ≤ 1260 → y.owed ≤ 1260 → (cond b x y).owed ≤ 1260
    owed_of true x y m n = m
    owed_of false x y m n = n

    due_of : (b : Bool) (x y : Owed) → x.due ≤ 4 → y.due ≤ 4 → (cond b x y).due ≤ 4
    due_of true x y m n = m
    due_of false x y m n = n

small-fold : (ss : List Stint) (o : Owing) → Fits o ss → IsSmall o → IsSmall (fold owe_stint o ss)
small-fold [] o f h = h
small-fold (s ∷ ss) o f h = small-fold ss (owe_stint o s) f.1 (small-stint o s f.0 h)

-- no weekly rest ends
ends-stint : (o : Owing) (s : Stint) → ends_as_weekly (owe_stint o s) ≡ true → (is_off s.mark && is_weekly s.kind) ≡ true
ends-stint o s h =
    elim (cases_Bool (is_off s.mark)) [
      | inl t ↦ rw t (let e = rw t at h in grind (arith, e))
      | inr f ↦ let e = rw f at h in cc
    ]

fits-uncut : (ss : List Stint) (o : Owing) (w : Bool) → (ends_as_weekly o ≡ true → w ≡ true) → cuts_none w ss ≡ true → Fits o ss
fits-uncut [] o w i h = tt
fits-uncut (s ∷ ss) o w i h = (
  (λ (e : is_off s.mark ≡ false) (t : ends_as_weekly o ≡ true). absurd (never e (i t))),
  fits-uncut ss (owe_stint o s) (is_off s.mark && is_weekly s.kind) (ends-stint o s) (grind arith),
)
  where
    never : is_off s.mark ≡ false → w ≡ true → ⊥
    never e t = let first : (is_off s.mark || not w) ≡ true = grind arith in let bad : (is_off s.mark || not w) ≡ false = rw (e, t) refl in cc

-- what is left and the debt have one open run
record Walks (c : SinceWeeklyRestFields) (o : Owing) : Type 0 where
  off : c.open_off ≡ o.off
  kind : c.declared ≡ o.declared

walks-stint : (c : SinceWeeklyRestFields) (o : Owing) (s : Stint) → Walks c o → Walks (carry c s) (owe_stint o s)
walks-stint c o s h =
    elim (cases_Bool (is_off s.mark)) [
      | inl t ↦ let e = h.off in rw t (record { off = omega arith; kind = refl })
      | inr f ↦ rw f (record {
        off = open-add_duty (end_off c) s.mark s.minutes ∙ open-end_off c;
        kind = declared-add_duty (end_off c) s.mark s.minutes;
      })
    ]

walks-fold : (ss : List Stint) (c : SinceWeeklyRestFields) (o : Owing) → Walks c o → Walks (fold carry c ss) (fold owe_stint o ss)
walks-fold [] c o h = h
walks-fold (s ∷ ss) c o h = walks-fold ss (carry c s) (owe_stint o s) (walks-stint c o s h)

at-stint : (o : Owing) (s : Stint) → (owe_stint o s).at ≡ o.at + s.minutes
at-stint o s =
    elim (cases_Bool (is_off s.mark)) [
      | inl t ↦ rw t refl
      | inr f ↦ rw f refl
    ]

fits-long : (ss : List Stint) (c : SinceWeeklyRestFields) (o : Owing) → RestsLong c ss → Walks c o → o.at + total_of ss ≤ 10080 → Fits o ss
fits-long [] c o r h l = tt
fits-long (s ∷ ss) c o r h l =
    let sum = sum_by-cons (λ (x : Stint). x.minutes) s ss in
    let off = h.off in
    let same : weekly_ends c ≡ ends_as_weekly o = rw (h.off, h.kind) refl in (
      (λ e t. let long = r.0 e (same ∙ t) in (omega arith, omega arith)),
      fits-long ss (carry c s) (owe_stint o s) r.1 (walks-stint c o s h) (omega (arith, sum, at-stint o s)),
    )

-- the debt on Monday
abbrev pub monday_owing : History → Owing
monday_owing h = owing_on_monday (fold owe_stint (owing_from (record { owed = h.owed; due = h.due })) h.stints.stints) h.open_off

small-monday : (h : History) → IsSmall (monday_owing h)
small-monday h =
    let debt = h.debt in let due = h.deadline in
    let past = small-fold h.stints.stints (owing_from (record { owed = h.owed; due = h.due }))
    (fits-uncut h.stints.stints (owing_from (record { owed = h.owed; due = h.due })) false (λ e. e) (cuts-past false h.stints.stints h.shape))
    (record { owed = debt; due = omega arith; begun = debt; begun_due = omega arith }) in
    record { owed = past.owed; due = past.due; begun = past.begun; begun_due = past.begun_due }

walks-monday : (h : History) → Walks (monday_left h) (monday_owing h)
walks-monday h =
    let past = walks-fold h.stints.stints (no_line h.prev_weekly) (owing_from (record { owed = h.owed; due = h.due })) (record { off = refl; kind = refl }) in
    let off = past.off in record { off = omega arith; kind = refl }

-- what is owed after a lawful week
pub record LeavesSmall (x : Owed) : Type 0 where
  pub owed : x.owed ≤ 1260
  pub weeks : weeks_later x ≤ 3
  pub none : x.owed ≡ 0 → weeks_later x ≡ 0

pub leaves-small : (h : History) (line : Line) → total_of line.stints ≤ 10080 → fault (past_of h) (week_minutes line) ≡ None →
    LeavesSmall (owed_left (fields_of h) line.stints)
leaves-small h line t f =
    let all = small-fold line.stints (monday_owing h)
    (fits-long line.stints (monday_left h) (monday_owing h) (rests-week h line t f) (walks-monday h) (omega arith)) (small-monday h) in
    let few = all.begun_due in record {
      owed = all.begun;
      weeks = grind (arith, nat_tests);
      none = λ z. rw z refl;
    }
