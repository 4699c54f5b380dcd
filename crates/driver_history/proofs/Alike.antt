-- Two clocks that are one but for the last weekly rest, where both are regular or neither is, and for when a debt is due.
use Rattle.std.proofs.Common.{◌≡◌, ℕ, zero, suc, ◌+◌, ◌-◌, ◌<◌, ◌≤ℤ◌, Bool, true, false, cond, ltb, inl, inr, ◌⊎◌, refl, subst, ap, arith, pos, ℤ, ◌-ℤ◌, min}
use Rattle.std.proofs.lemmas.Int.{ints}
use Rattle.minute_line.specs.declared.marks.Mark.{Mark}
use Rattle.minute_line.specs.declared.marks.Kind.{Kind}
use Rattle.minute_line.specs.declared.marks.Kind.TheVariants.{Plain, Daily, Weekly}
use Rattle.hours_rules.specs.declared.clocks.Clock.{Clock}
use Rattle.hours_rules.specs.declared.rules.Rule.{Rule}
use Rattle.hours_rules.specs.declared.rules.Rule.TheVariants.{H1, H2, H3, H4, H5, H6, H7, H8, H9, H10, H11, H12}
use Rattle.hours_rules.specs.Rules.{least_rest}
use Rattle.hours_rules.specs.Debts.{third_week_end}
use Rattle.hours_rules.specs.Machine.{run_ended, ticked, rested, room, debt_room, limit_if, left_until, weekly_here, paying_here, owing_here}

-- what is owed is the same, and due at the same minute, or was due before Monday in both
pub record DueAlike (a b : Clock) : Type 0 where
  pub owed_same : a.owed ≡ b.owed
  pub due_same : 0 < a.owed → (a.due ≡ b.due) ⊎ ((a.due ≤ℤ pos 0) × (b.due ≤ℤ pos 0))

-- the debts of two clocks as numbers
abbrev Dues : ℕ → ℕ → ℤ → ℤ → Type 0
Dues x y p q = (x ≡ y) × (0 < x → (p ≡ q) ⊎ ((p ≤ℤ pos 0) × (q ≤ℤ pos 0)))

dues_by_tests : (pays owes : Bool) (k l x y : ℕ) (e p q : ℤ) → k ≡ l → Dues x y p q →
    Dues (cond pays 0 (cond owes k x)) (cond pays 0 (cond owes l y)) (cond pays (pos 0) (cond owes e p)) (cond pays (pos 0) (cond owes e q))
dues_by_tests true owes k l x y e p q s h = (refl, λ some. inl refl)
dues_by_tests false true k l x y e p q s h = (s, λ some. inl refl)
dues_by_tests false false k l x y e p q s h = h

pub dues-ended : (a b : Clock) (kind : Kind) → paying_here a kind ≡ paying_here b kind → owing_here a kind ≡ owing_here b kind →
    2700 - a.off ≡ 2700 - b.off → a.at ≡ b.at → DueAlike a b → DueAlike (run_ended a kind) (run_ended b kind)
dues-ended a b kind pays owes lacks at h =
    let both = dues_by_tests (paying_here b kind) (owing_here b kind) (2700 - a.off) (2700 - b.off) a.owed b.owed
    (third_week_end (pos b.at -ℤ pos 1)) a.due b.due lacks (h.owed_same, h.due_same) in record {
      owed_same = rw (pays, owes) both.0;
      due_same = rw (pays, owes, at) both.1;
    }

pub dues-rested : (a b : Clock) → DueAlike a b → DueAlike (rested a 1) (rested b 1)
dues-rested a b h = record { owed_same = h.owed_same; due_same = h.due_same }

pub dues-ticked : (a b : Clock) (mark : Mark) → DueAlike a b → DueAlike (ticked a mark 1) (ticked b mark 1)
dues-ticked a b mark h = record { owed_same = h.owed_same; due_same = h.due_same }

no_time : (at owed : ℕ) (due : ℤ) → due ≤ℤ pos 0 → left_until 0 (due -ℤ pos (660 + owed)) at ≡ 0
no_time at owed due h = grind (arith, ints)

room_by_owed : (at owed : ℕ) (p q : ℤ) → (0 < owed → (p ≡ q) ⊎ ((p ≤ℤ pos 0) × (q ≤ℤ pos 0))) →
    limit_if (ltb 0 owed) (min 20000 (left_until 0 (p -ℤ pos (660 + owed)) at)) ≡ limit_if (ltb 0 owed) (min 20000 (left_until 0 (q -ℤ pos (660 + owed)) at))
room_by_owed at zero p q h = refl
room_by_owed at (suc n) p q h = by_due (h (omega arith))
  where
    by_due : (p ≡ q) ⊎ ((p ≤ℤ pos 0) × (q ≤ℤ pos 0)) →
        limit_if (ltb 0 (suc n)) (min 20000 (left_until 0 (p -ℤ pos (660 + suc n)) at)) ≡ limit_if (ltb 0 (suc n)) (min 20000 (left_until 0 (q -ℤ pos (660 + suc n)) at))
    by_due (inl e) = rw e refl
    by_due (inr (l, m)) = rw (no_time at (suc n) p l, no_time at (suc n) q m) refl

-- a debt that was due before Monday leaves no room, whenever it was
pub debt-room-same : (x y : Clock) → x.at ≡ y.at → DueAlike x y → debt_room x ≡ debt_room y
debt-room-same x y e h = rw e (rw (← h.owed_same) (room_by_owed y.at x.owed x.due y.due h.due_same))

-- the two clocks are one with the last weekly rest and the due minute of the second
pub record Alike (a b : Clock) : Type 0 where
  pub same : record a { prev_weekly = b.prev_weekly; due = b.due } ≡ b
  pub regular : ltb a.prev_weekly 2700 ≡ ltb b.prev_weekly 2700
  pub debt : DueAlike a b

least-same : (kind : Kind) (p q owed : ℕ) → ltb p 2700 ≡ ltb q 2700 → least_rest kind p owed ≡ least_rest kind q owed
least-same Plain p q owed e = refl
least-same Daily p q owed e = refl
least-same Weekly p q owed e = rw e refl

-- the debts once the open run of both has ended
alike-dues : (a b : Clock) (kind : Kind) → Alike a b → DueAlike (run_ended a kind) (run_ended b kind)
alike-dues a b kind h =
    let off : a.off ≡ b.off = ap (λ (c : Clock). c.off) h.same in
    let at : a.at ≡ b.at = ap (λ (c : Clock). c.at) h.same in
    dues-ended a b kind (rw (off, h.debt.owed_same) refl) (rw (off, h.debt.owed_same) refl) (rw off refl) at h.debt

pub alike-room : (a b : Clock) (mark : Mark) (kind : Kind) → Alike a b → (r : Rule) →
    room a (run_ended a kind) mark kind r ≡ room b (run_ended b kind) mark kind r
alike-room a b mark kind h H5 =
    let off : a.off ≡ b.off = ap (λ (c : Clock). c.off) h.same in
    rw (off, h.debt.owed_same, least-same kind a.prev_weekly b.prev_weekly b.owed h.regular) refl
alike-room a b mark kind h H12 =
    let at : a.at ≡ b.at = ap (λ (c : Clock). c.at) h.same in
    debt-room-same (run_ended a kind) (run_ended b kind) at (alike-dues a b kind h)
alike-room a b mark kind h H1 = ap (λ (c : Clock). room c (run_ended c kind) mark kind H1) h.same
alike-room a b mark kind h H2 = ap (λ (c : Clock). room c (run_ended c kind) mark kind H2) h.same
alike-room a b mark kind h H3 = ap (λ (c : Clock). room c (run_ended c kind) mark kind H3) h.same
alike-room a b mark kind h H4 = ap (λ (c : Clock). room c (run_ended c kind) mark kind H4) h.same
alike-room a b mark kind h H6 = ap (λ (c : Clock). room c (run_ended c kind) mark kind H6) h.same
alike-room a b mark kind h H7 = ap (λ (c : Clock). room c (run_ended c kind) mark kind H7) h.same
alike-room a b mark kind h H8 = ap (λ (c : Clock). room c (run_ended c kind) mark kind H8) h.same
alike-room a b mark kind h H9 = ap (λ (c : Clock). room c (run_ended c kind) mark kind H9) h.same
alike-room a b mark kind h H10 = ap (λ (c : Clock). room c (run_ended c kind) mark kind H10) h.same
alike-room a b mark kind h H11 = ap (λ (c : Clock). room c (run_ended c kind) mark kind H11) h.same

-- they stay so
pub alike-duty : (a b : Clock) (mark : Mark) (kind : Kind) → Alike a b → Alike (ticked (run_ended a kind) mark 1) (ticked (run_ended b kind) mark 1)
alike-duty a b mark kind h =
    let off : a.off ≡ b.off = ap (λ (c : Clock). c.off) h.same in record {
      same = subst (λ (c : Clock). record (ticked (run_ended a kind) mark 1) {
        prev_weekly = (ticked (run_ended c kind) mark 1).prev_weekly;
        due = (ticked (run_ended c kind) mark 1).due;
      } ≡ ticked (run_ended c kind) mark 1) h.same refl;
      regular = rw off (by_end (weekly_here b kind));
      debt = dues-ticked (run_ended a kind) (run_ended b kind) mark (alike-dues a b kind h);
    }
  where
    by_end : (w : Bool) → ltb (cond w b.off a.prev_weekly) 2700 ≡ ltb (cond w b.off b.prev_weekly) 2700
    by_end true = refl
    by_end false = h.regular

pub alike-off : (a b : Clock) → Alike a b → Alike (rested a 1) (rested b 1)
alike-off a b h = record { same = ap (λ (c : Clock). rested c 1) h.same; regular = h.regular; debt = dues-rested a b h.debt }

-- an on-duty minute more
pub alike-ticked : (a b : Clock) (mark : Mark) → Alike a b → Alike (ticked a mark 1) (ticked b mark 1)
alike-ticked a b mark h = record { same = ap (λ (c : Clock). ticked c mark 1) h.same; regular = h.regular; debt = dues-ticked a b mark h.debt }
