-- What one more minute does to the debt of a line.
use Rattle.std.proofs.Common.{◌≡◌, ℕ, ◌-◌, Bool, true, false, cond, ◌∷◌, length, refl, ap, arith, pos, ℤ, ◌-ℤ◌, length-append}
use Rattle.std.proofs.lemmas.Int.{ints}
use Rattle.minute_line.specs.Minutes.{Minute, Minutes}
use Rattle.minute_line.specs.declared.marks.Mark.TheVariants.{Off}
use Rattle.minute_line.specs.Marks.{is_duty}
use Rattle.hours_rules.specs.declared.clocks.Clock.{Clock}
use Rattle.hours_rules.specs.Debts.{Debt, no_debt, third_week_end, debt_after, ends_paying, ends_owing}
use Rattle.hours_rules.specs.Rules.{Past, whole, debt_of}
use Rattle.hours_rules.specs.Standing.{Stands}
use Rattle.hours_rules.specs.Machine.{run_ended, paying_here, owing_here}

-- a minute's place in the line, counted from Monday, is its place in the week
debt_step : (past : Past) (m : Minute) (week : Minutes) →
    debt_of past (m ∷ week) ≡ debt_after (debt_of past week) (pos (length week)) m (whole past week)
debt_step past m week =
    let e : pos (length (whole past week)) -ℤ pos (length past.minutes) ≡ pos (length week) =
    omega (arith, ints, length-append week past.minutes) in
    ap (λ (at : ℤ). debt_after (debt_of past week) at m (whole past week)) e

pub debt-off : (past : Past) (m : Minute) (week : Minutes) → m.mark ≡ Off → debt_of past (m ∷ week) ≡ debt_of past week
debt-off past m week e = rw e refl

paying_is : (c : Clock) (past : Past) (m : Minute) (week : Minutes) → is_duty m.mark ≡ true →
    Stands c past week → paying_here c m.kind ≡ ends_paying (debt_of past week).owed m (whole past week)
paying_is c past m week d s = rw (d, s.off, s.owed) refl

owing_is : (c : Clock) (past : Past) (m : Minute) (week : Minutes) → is_duty m.mark ≡ true →
    Stands c past week → owing_here c m.kind ≡ ends_owing (debt_of past week).owed m (whole past week)
owing_is c past m week d s = rw (d, s.off, s.owed) refl

owed_step : (pays owes : Bool) (off run owed : ℕ) (debt : Debt) (due : ℤ) → off ≡ run → owed ≡ debt.owed →
    cond pays 0 (cond owes (2700 - off) owed) ≡ (cond pays no_debt (cond owes (record { owed = 2700 - run; due = due }) debt)).owed
owed_step true owes off run owed debt due e f = refl
owed_step false true off run owed debt due e f = rw e refl
owed_step false false off run owed debt due e f = f

due_step : (pays owes : Bool) (owed : ℕ) (debt : Debt) (from to due : ℤ) → from ≡ to → due ≡ debt.due →
    cond pays (pos 0) (cond owes from due) ≡ (cond pays no_debt (cond owes (record { owed = owed; due = to }) debt)).due
due_step true owes owed debt from to due e f = refl
due_step false true owed debt from to due e f = e
due_step false false owed debt from to due e f = f

pub owed-duty : (c : Clock) (past : Past) (m : Minute) (week : Minutes) → is_duty m.mark ≡ true → Stands c past week →
    (run_ended c m.kind).owed ≡ (debt_of past (m ∷ week)).owed
owed-duty c past m week d s =
    rw (debt_step past m week, paying_is c past m week d s, owing_is c past m week d s)
    (owed_step (ends_paying (debt_of past week).owed m (whole past week)) (ends_owing (debt_of past week).owed m (whole past week))
    _ _ _ (debt_of past week) _ s.off s.owed)

pub due-duty : (c : Clock) (past : Past) (m : Minute) (week : Minutes) → is_duty m.mark ≡ true → Stands c past week →
    (run_ended c m.kind).due ≡ (debt_of past (m ∷ week)).due
due-duty c past m week d s =
    rw (debt_step past m week, paying_is c past m week d s, owing_is c past m week d s)
    (due_step (ends_paying (debt_of past week).owed m (whole past week)) (ends_owing (debt_of past week).owed m (whole past week))
    _ (debt_of past week) _ _ _ (ap (λ (n : ℕ). third_week_end (pos n -ℤ pos 1)) s.at) s.due)
