-- The debt that the code follows is that of the line's clock.
use Rattle.std.proofs.Common.{◌≡◌, ℕ, zero, suc, ◌+◌, ◌*◌, ◌/◌, ◌≤◌, Bool, true, false, cond, List, [], ◌∷◌, fold, refl, arith, ap, ◌∙◌, pos, ℤ, ◌-ℤ◌, inl, inr}
use Rattle.std.proofs.lemmas.Bool.{cases_Bool}
use Rattle.std.proofs.lemmas.Int.{ints}
use Rattle.minute_line.specs.declared.marks.Kind.{Kind}
use Rattle.minute_line.specs.declared.marks.Kind.TheVariants.{Plain}
use Rattle.minute_line.specs.declared.marks.Stint.{Stint}
use Rattle.std.proofs.lemmas.List.Sums.{sum_by-cons}
use Rattle.minute_line.specs.Minutes.{total_of}
use Rattle.minute_line.specs.Marks.{is_off}
use Rattle.hours_rules.specs.declared.clocks.Clock.{Clock}
use Rattle.hours_rules.specs.Debts.{Debt, third_week_end}
use Rattle.hours_rules.specs.Machine.{run_ended, rested, weekly_here, paying_here, owing_here, at_monday}
use Rattle.driver_history.specs.declared.owing.Owed.{Owed}
use Rattle.driver_history.specs.declared.owing.Owing.{Owing}
use Rattle.driver_history.specs.Debts.{weeks_due}
use Rattle.driver_history.specs.Owing.{ends_as_weekly, ends_as_paying, ends_as_owing, owed_now, owed_after, owe_stint, owing_on_monday, weeks_later, IsShort}
use Rattle.driver_history.proofs.Watching.{after_block, declared_after, watch, declared_by}

pub short-less : (o : Owing) (m n : ℕ) → IsShort o n → m ≤ n → IsShort o m
short-less o m n h l = let a = h.off in let b = h.at in record { off = omega arith; at = omega arith }

pub short-next : (o : Owing) (s : Stint) (n : ℕ) → IsShort o (s.minutes + n) → IsShort (owe_stint o s) n
short-next o s n h =
    let a = h.off in let b = h.at in
    elim (cases_Bool (is_off s.mark)) [
      | inl t ↦ rw t (record { off = omega arith; at = omega arith })
      | inr f ↦ rw f (record { off = omega arith; at = omega arith })
    ]

pub short-fold : (ss : List Stint) (o : Owing) (n : ℕ) → IsShort o (total_of ss + n) → IsShort (fold owe_stint o ss) n
short-fold [] o n h = short-less o n (0 + n) h (omega arith)
short-fold (s ∷ ss) o n h =
    let sum = sum_by-cons (λ (x : Stint). x.minutes) s ss in
    short-fold ss (owe_stint o s) n (short-next o s (total_of ss + n) (short-less o _ _ h (omega (arith, sum))))

-- a debt with the minute at which it is due
abbrev pub as_debt : Owed → Debt
as_debt x = record { owed = x.owed; due = pos (x.due * 10080) }

-- the debt of a clock
abbrev pub debt_in : Clock → Debt
debt_in k = record { owed = k.owed; due = k.due }

-- the code has the clock's debt, open run and minute
pub record Owes (o : Owing) (k : Clock) (declared : Kind) : Type 0 where
  pub off : o.off ≡ k.off
  pub kind : o.declared ≡ declared
  pub at : o.at ≡ k.at
  pub owed : o.debt.owed ≡ k.owed
  pub due : pos (o.debt.due * 10080) ≡ k.due

-- the end of the third week after the week of the minute before `at`
third_week : (at : ℕ) → pos (((at + 10079) / 10080 + 3) * 10080) ≡ third_week_end (pos at -ℤ pos 1)
third_week zero = omega (arith, ints)
third_week (suc n) = let e : (pos (suc n) -ℤ pos 1) ≡ pos n = omega (arith, ints) in rw e (omega (arith, ints))

owed_by_tests : (pays owes : Bool) (o : Owed) (x : Owed) → (cond pays (record { owed = 0; due = 0 }) (cond owes o x)).owed ≡ cond pays 0 (cond owes o.owed x.owed)
owed_by_tests true owes o x = refl
owed_by_tests false true o x = refl
owed_by_tests false false o x = refl

due_by_tests : (pays owes : Bool) (o : Owed) (x : Owed) (end due : ℤ) → pos (o.due * 10080) ≡ end → pos (x.due * 10080) ≡ due →
    pos ((cond pays (record { owed = 0; due = 0 }) (cond owes o x)).due * 10080) ≡ cond pays (pos 0) (cond owes end due)
due_by_tests true owes o x end due e f = refl
due_by_tests false true o x end due e f = e
due_by_tests false false o x end due e f = f

paying-is : (o : Owing) (k : Clock) (d : Kind) → Owes o k d → ends_as_paying o ≡ paying_here k d
paying-is o k d h = rw (h.off, h.kind, h.owed) refl

owing-is : (o : Owing) (k : Clock) (d : Kind) → Owes o k d → ends_as_owing o ≡ owing_here k d
owing-is o k d h = rw (h.off, h.kind, h.owed) refl

pub weekly-is : (o : Owing) (k : Clock) (d : Kind) → Owes o k d → ends_as_weekly o ≡ weekly_here k d
weekly-is o k d h = rw (h.off, h.kind) refl

owed-ended : (o : Owing) (k : Clock) (d : Kind) → Owes o k d → (owed_after o).owed ≡ (run_ended k d).owed
owed-ended o k d h =
    owed_by_tests (ends_as_paying o) (ends_as_owing o) (owed_now o) o.debt ∙ rw (paying-is o k d h, owing-is o k d h, h.off, h.owed) refl

due-ended : (o : Owing) (k : Clock) (d : Kind) → Owes o k d → pos ((owed_after o).due * 10080) ≡ (run_ended k d).due
due-ended o k d h =
    let end : pos ((owed_now o).due * 10080) ≡ third_week_end (pos k.at -ℤ pos 1) = third_week o.at ∙ rw h.at refl in
    due_by_tests (ends_as_paying o) (ends_as_owing o) (owed_now o) o.debt (third_week_end (pos k.at -ℤ pos 1)) k.due end h.due
    ∙ rw (paying-is o k d h, owing-is o k d h) refl

pub debt-ended : (o : Owing) (k : Clock) (d : Kind) → Owes o k d → as_debt (owed_after o) ≡ debt_in (run_ended k d)
debt-ended o k d h = λ i. record { owed = owed-ended o k d h i; due = due-ended o k d h i }

pub owes-stint : (o : Owing) (k : Clock) (d : Kind) (s : Stint) → Owes o k d → Owes (owe_stint o s) (after_block k d s.mark s.minutes) (declared_after s)
owes-stint o k d s h =
    let off = h.off in let at = h.at in
    elim (cases_Bool (is_off s.mark)) [
      | inl t ↦ rw t (record { off = omega arith; kind = refl; at = omega arith; owed = h.owed; due = h.due })
      | inr f ↦ rw f (record { off = refl; kind = refl; at = omega arith; owed = owed-ended o k d h; due = due-ended o k d h })
    ]

pub owes-fold : (ss : List Stint) (o : Owing) (k : Clock) (d : Kind) → Owes o k d → Owes (fold owe_stint o ss) (watch k d ss) (declared_by d ss)
owes-fold [] o k d h = h
owes-fold (s ∷ ss) o k d h = owes-fold ss (owe_stint o s) _ _ (owes-stint o k d s h)

pub owes-monday : (o : Owing) (k : Clock) (d : Kind) (n : ℕ) → Owes o k d → Owes (owing_on_monday o n) (at_monday (rested k n)) Plain
owes-monday o k d n h = let off = h.off in record { off = omega arith; kind = refl; at = refl; owed = h.owed; due = h.due }

-- the debt where what is left of a line begins, by its clock, after one more stint
abbrev pub begun_after : Debt → Clock → Kind → Stint → Debt
begun_after b k d s = cond (is_off s.mark) b (cond (weekly_here k d) (debt_in (run_ended k d)) b)

-- after some stints
abbrev pub begun_by : Debt → Clock → Kind → List Stint → Debt
begun_by b k d [] = b
begun_by b k d (s ∷ ss) = begun_by (begun_after b k d s) (after_block k d s.mark s.minutes) (declared_after s) ss

begun-stint : (o : Owing) (b : Debt) (k : Clock) (d : Kind) (s : Stint) → Owes o k d → as_debt o.begun ≡ b → as_debt (owe_stint o s).begun ≡ begun_after b k d s
begun-stint o b k d s h e =
    elim (cases_Bool (is_off s.mark)) [
      | inl t ↦ rw t e
      | inr f ↦ rw f (by_end (ends_as_weekly o) ∙ ap (λ (w : Bool). cond w (debt_in (run_ended k d)) b) (weekly-is o k d h))
    ]
  where
    by_end : (w : Bool) → as_debt (cond w (owed_after o) o.begun) ≡ cond w (debt_in (run_ended k d)) b
    by_end true = debt-ended o k d h
    by_end false = e

pub begun-fold : (ss : List Stint) (o : Owing) (b : Debt) (k : Clock) (d : Kind) → Owes o k d → as_debt o.begun ≡ b →
    as_debt (fold owe_stint o ss).begun ≡ begun_by b k d ss
begun-fold [] o b k d h e = e
begun-fold (s ∷ ss) o b k d h e = begun-fold ss (owe_stint o s) (begun_after b k d s) _ _ (owes-stint o k d s h) (begun-stint o b k d s h e)

pub weeks-is : (x : Owed) → weeks_due (as_debt x) ≡ weeks_later x
weeks-is x = let same : (x.due * 10080) / 10080 ≡ x.due = omega arith in rw same refl
