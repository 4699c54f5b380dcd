-- How large a debt is, and that one which no weekly rest touches is the same wherever Monday is.
use Rattle.std.proofs.Common.{◌≡◌, ℕ, ◌+◌, ◌-◌, ◌≤◌, Bool, true, false, cond, [], ◌∷◌, length, refl, arith, pos, negsuc, ℤ, ◌-ℤ◌, ◌+ℤ◌, ◌≤ℤ◌, List, fold, zero, suc}
use Rattle.std.specs.Prelude.{⊤}
use Rattle.std.proofs.lemmas.Int.{ints}
use Rattle.std.proofs.lemmas.Bool.{and_parts, not-true}
use Rattle.minute_line.specs.Minutes.{Minute, Minutes, Reached, stretch, add_block, add_stint}
use Rattle.minute_line.specs.declared.marks.Mark.{Mark}
use Rattle.minute_line.specs.declared.marks.Mark.TheVariants.{Drive, Work, Ready, Off}
use Rattle.minute_line.specs.declared.marks.Kind.{Kind}
use Rattle.minute_line.specs.declared.marks.Kind.TheVariants.{Plain}
use Rattle.minute_line.specs.declared.marks.Stint.{Stint}
use Rattle.minute_line.specs.declared.lines.History.{History}
use Rattle.minute_line.specs.Marks.{is_off, is_weekly}
use Rattle.minute_line.specs.Stints.{is_past}
use Rattle.hours_rules.specs.Counts.{open_run}
use Rattle.hours_rules.specs.Debts.{Debt, no_debt, third_week_end, debt_along, ends_paying, ends_owing}
use Rattle.hours_rules.specs.Standing.{IsCarried}
use Rattle.hours_rules.specs.Verdicts.{past_of}

pub third_week_end-low : (at : ℤ) → (at +ℤ pos 30240) ≤ℤ third_week_end at
third_week_end-low (pos n) = omega (arith, ints)
third_week_end-low (negsuc n) = omega (arith, ints)

pub third_week_end-high : (at : ℤ) → third_week_end at ≤ℤ (at +ℤ pos 40320)
third_week_end-high (pos n) = omega (arith, ints)
third_week_end-high (negsuc n) = omega (arith, ints)

-- the numbers of a debt in a line of at most n minutes
pub record DebtWithin (n : ℕ) (debt : Debt) : Type 0 where
  pub owed : debt.owed ≤ 2700
  pub due : debt.due ≤ℤ pos (n + 50400)
  pub low : pos 0 ≤ℤ (debt.due +ℤ pos n)

after-within : (n run : ℕ) (pays owes : Bool) (debt : Debt) (at : ℤ) → at ≤ℤ pos n → pos 0 ≤ℤ (at +ℤ pos (n + 1)) → DebtWithin n debt →
    DebtWithin n (cond pays no_debt (cond owes (record { owed = 2700 - run; due = third_week_end at }) debt))
after-within n run true owes debt at l m d = record { owed = omega arith; due = omega (arith, ints); low = omega (arith, ints) }
after-within n run false true debt at l m d =
    let low = third_week_end-low at in let high = third_week_end-high at in
    record { owed = omega arith; due = omega (arith, ints); low = omega (arith, ints) }
after-within n run false false debt at l m d = d

pub debt-within : (n monday : ℕ) (debt : Debt) (line : Minutes) → IsCarried debt → monday ≤ n → length line ≤ n →
    DebtWithin n (debt_along debt monday line)
debt-within n monday debt [] d l m =
    let low = d.not_before in let high = d.due in
    record { owed = omega (arith, d.owed); due = omega (arith, ints); low = omega (arith, ints) }
debt-within n monday debt (m ∷ before) d l k =
    after-within n (open_run before) (ends_paying (debt_along debt monday before).owed m before)
    (ends_owing (debt_along debt monday before).owed m before) (debt_along debt monday before) ((pos (length before) -ℤ pos monday) -ℤ pos 1)
    (omega (arith, ints)) (omega (arith, ints)) (debt-within n monday debt before d l (omega arith))

-- no run of the list ends as a weekly rest
unfoldable pub NoWeekly : Minutes → Type 0
NoWeekly [] = ⊤
NoWeekly (m ∷ before) = (is_weekly m.kind ≡ false) × NoWeekly before

not_owing : (m : Minute) (before : Minutes) (owed : ℕ) → is_weekly m.kind ≡ false → ends_owing owed m before ≡ false
not_owing m before owed e = grind (arith, e)

-- wherever Monday is, such a list has the same debt
pub debt-anywhere : (debt : Debt) (k l : ℕ) (line : Minutes) → NoWeekly line → debt_along debt k line ≡ debt_along debt l line
unfolding NoWeekly
debt-anywhere debt k l [] w = refl
debt-anywhere debt k l (m ∷ before) w =
    rw (debt-anywhere debt k l before w.1, not_owing m before (debt_along debt l before).owed w.0) refl

pub no_weekly-stretch : (n : ℕ) (mark : Mark) (kind : Kind) (week : Minutes) → is_weekly kind ≡ false → NoWeekly week → NoWeekly (stretch n mark kind week)
unfolding NoWeekly
no_weekly-stretch zero mark kind week e w = w
no_weekly-stretch (suc n) mark kind week e w = (e, no_weekly-stretch n mark kind week e w)

pub record KeepsNoWeekly (r : Reached) : Type 0 where
  pub minutes : NoWeekly r.minutes
  pub declared : is_weekly r.declared ≡ false

no_weekly-block : (mark : Mark) (n : ℕ) (kind : Kind) (r : Reached) → is_weekly kind ≡ false → KeepsNoWeekly r → KeepsNoWeekly (add_block mark n kind r)
no_weekly-block Off n kind r e w = record { minutes = no_weekly-stretch n Off Plain r.minutes refl w.minutes; declared = e }
no_weekly-block Drive n kind r e w = record { minutes = no_weekly-stretch n Drive r.declared r.minutes w.declared w.minutes; declared = refl }
no_weekly-block Work n kind r e w = record { minutes = no_weekly-stretch n Work r.declared r.minutes w.declared w.minutes; declared = refl }
no_weekly-block Ready n kind r e w = record { minutes = no_weekly-stretch n Ready r.declared r.minutes w.declared w.minutes; declared = refl }

pub no_weekly-stints : (after : Bool) (stints : List Stint) (r : Reached) → is_past after stints ≡ true → KeepsNoWeekly r →
    NoWeekly (fold add_stint r stints).minutes
no_weekly-stints after [] r h w = w.minutes
no_weekly-stints after (s ∷ rest) r h w =
    let parts = and_parts _ _ h in
    let kind : is_weekly s.kind ≡ false = not-true _ (and_parts _ _ parts.0).1 in
    no_weekly-stints (is_off s.mark) rest (add_stint r s) parts.1 (no_weekly-block s.mark s.minutes s.kind r kind w)

pub no_weekly-nothing : KeepsNoWeekly (record { minutes = []; declared = Plain })
unfolding NoWeekly
no_weekly-nothing = record { minutes = tt; declared = refl }

-- no run of a history ends as a weekly rest
pub no_weekly-history : (h : History) → NoWeekly (past_of h).minutes
unfolding NoWeekly
no_weekly-history h = no_weekly-stretch h.open_off Off Plain _ refl
    (no_weekly-stints false h.stints.stints (record { minutes = []; declared = Plain }) h.shape no_weekly-nothing)
