-- While a debt stands it is the one that its line began with.
use Rattle.std.proofs.Common.{◌≡◌, ℕ, ◌<◌, Bool, true, false, cond, List, [], ◌∷◌, refl, arith, pos, ℤ, inl, inr}
use Rattle.std.proofs.lemmas.Bool.{cases_Bool}
use Rattle.minute_line.specs.declared.marks.Kind.{Kind}
use Rattle.minute_line.specs.declared.marks.Stint.{Stint}
use Rattle.minute_line.specs.Marks.{is_off}
use Rattle.hours_rules.specs.declared.clocks.Clock.{Clock}
use Rattle.hours_rules.specs.Debts.{Debt}
use Rattle.hours_rules.specs.Machine.{weekly_here, paying_here, owing_here}
use Rattle.driver_history.proofs.Watching.{after_block, declared_after, watch}
use Rattle.driver_history.proofs.OwedClocks.{begun_after, begun_by}

-- a debt of that many minutes, due then, is the one that the line began with, if it is one
pub record IsKeptDebt (b : Debt) (owed : ℕ) (due : ℤ) : Type 0 where
  pub owed_is : 0 < owed → owed ≡ b.owed
  pub due_is : 0 < owed → due ≡ b.due

by_tests : (here pays owes : Bool) (n x : ℕ) (e y : ℤ) (b : Debt) → (owes ≡ true → here ≡ true) → IsKeptDebt b x y →
    IsKeptDebt (cond here (record { owed = cond pays 0 (cond owes n x); due = cond pays (pos 0) (cond owes e y) }) b)
    (cond pays 0 (cond owes n x)) (cond pays (pos 0) (cond owes e y))
by_tests true pays owes n x e y b i h = record { owed_is = λ l. refl; due_is = λ l. refl }
by_tests false true owes n x e y b i h = record { owed_is = λ l. absurd (omega arith); due_is = λ l. absurd (omega arith) }
by_tests false false true n x e y b i h = let bad = i refl in absurd cc
by_tests false false false n x e y b i h = h

owing-weekly : (k : Clock) (d : Kind) → owing_here k d ≡ true → weekly_here k d ≡ true
owing-weekly k d h = grind arith

keeps-stint : (b : Debt) (k : Clock) (d : Kind) (s : Stint) → IsKeptDebt b k.owed k.due →
    IsKeptDebt (begun_after b k d s) (after_block k d s.mark s.minutes).owed (after_block k d s.mark s.minutes).due
keeps-stint b k d s h =
    elim (cases_Bool (is_off s.mark)) [
      | inl t ↦ rw t h
      | inr f ↦ rw f (by_tests (weekly_here k d) (paying_here k d) (owing_here k d) _ k.owed _ k.due b (owing-weekly k d) h)
    ]

pub keeps-watch_debt : (ss : List Stint) (b : Debt) (k : Clock) (d : Kind) → IsKeptDebt b k.owed k.due →
    IsKeptDebt (begun_by b k d ss) (watch k d ss).owed (watch k d ss).due
keeps-watch_debt [] b k d h = h
keeps-watch_debt (s ∷ ss) b k d h = keeps-watch_debt ss (begun_after b k d s) _ (declared_after s) (keeps-stint b k d s h)
