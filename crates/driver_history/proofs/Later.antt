-- A debt counted from the next Monday.
use Rattle.std.proofs.Common.{◌≡◌, ℕ, ◌+◌, ◌-◌, ◌<◌, ◌≤◌, inl, inr, ◌⊎◌, Bool, true, false, cond, [], ◌∷◌, length, refl, ap, arith, ◌∙◌, pos, negsuc, ℤ, ◌-ℤ◌}
use Rattle.std.proofs.lemmas.Bool.{cases_lt}
use Rattle.std.proofs.lemmas.Int.{ints}
use Rattle.minute_line.specs.Minutes.{Minutes}
use Rattle.hours_rules.specs.Counts.{open_run}
use Rattle.hours_rules.specs.Debts.{Debt, no_debt, third_week_end, debt_along, ends_paying, ends_owing}
use Rattle.driver_history.specs.Laws.{a_week_on}

-- a debt counted from Monday and from the next one, where it stands
pub record WeekLater (later before : Debt) : Type 0 where
  pub owed : later.owed ≡ before.owed
  pub due : 0 < before.owed → later.due ≡ before.due -ℤ pos 10080

week_later : (z : ℤ) → third_week_end (z -ℤ pos 10080) ≡ third_week_end z -ℤ pos 10080
week_later (pos n) = by_week (cases_lt n 10080)
  where
    by_week : (n < 10080) ⊎ (10080 ≤ n) → third_week_end (pos n -ℤ pos 10080) ≡ third_week_end (pos n) -ℤ pos 10080
    by_week (inl l) = let e : (pos n -ℤ pos 10080) ≡ negsuc (10079 - n) = omega (arith, ints) in ap third_week_end e ∙ omega (arith, ints)
    by_week (inr l) = let e : (pos n -ℤ pos 10080) ≡ pos (n - 10080) = omega (arith, ints) in ap third_week_end e ∙ omega (arith, ints)
week_later (negsuc n) = let e : (negsuc n -ℤ pos 10080) ≡ negsuc (n + 10080) = omega (arith, ints) in ap third_week_end e ∙ omega (arith, ints)

-- the same minute, counted from the next Monday
third_week-later : (a n : ℕ) → third_week_end ((pos n -ℤ pos (a + 10080)) -ℤ pos 1) ≡ third_week_end ((pos n -ℤ pos a) -ℤ pos 1) -ℤ pos 10080
third_week-later a n =
    let before : ((pos n -ℤ pos (a + 10080)) -ℤ pos 1) ≡ (((pos n -ℤ pos a) -ℤ pos 1) -ℤ pos 10080) = omega (arith, ints) in
    ap third_week_end before ∙ week_later ((pos n -ℤ pos a) -ℤ pos 1)

later_by_tests : (pays owes : Bool) (n : ℕ) (e f : ℤ) (x y : Debt) → e ≡ f -ℤ pos 10080 → WeekLater x y →
    WeekLater (cond pays no_debt (cond owes (record { owed = n; due = e }) x)) (cond pays no_debt (cond owes (record { owed = n; due = f }) y))
later_by_tests true owes n e f x y g h = record { owed = refl; due = λ some. absurd (omega arith) }
later_by_tests false true n e f x y g h = record { owed = refl; due = λ some. g }
later_by_tests false false n e f x y g h = h

-- where both are paid, or both made
same_tests : (pa pb oa ob : Bool) (n : ℕ) (e f : ℤ) (x y : Debt) → pa ≡ pb → oa ≡ ob → e ≡ f -ℤ pos 10080 → WeekLater x y →
    WeekLater (cond pa no_debt (cond oa (record { owed = n; due = e }) x)) (cond pb no_debt (cond ob (record { owed = n; due = f }) y))
same_tests pa pb oa ob n e f x y p o g h = rw (p, o) (later_by_tests pb ob n e f x y g h)

pub along-week : (debt : Debt) (a b : ℕ) (line : Minutes) → b ≡ a + 10080 → WeekLater (debt_along (a_week_on debt) b line) (debt_along debt a line)
along-week debt a b [] e = record { owed = refl; due = λ some. refl }
along-week debt a b (m ∷ before) e =
    let x = debt_along (a_week_on debt) b before in
    let y = debt_along debt a before in
    let h : WeekLater x y = along-week debt a b before e in
    let end : third_week_end ((pos (length before) -ℤ pos b) -ℤ pos 1) ≡ third_week_end ((pos (length before) -ℤ pos a) -ℤ pos 1) -ℤ pos 10080 =
    rw e (third_week-later a (length before)) in
    same_tests (ends_paying x.owed m before) (ends_paying y.owed m before) (ends_owing x.owed m before) (ends_owing y.owed m before) (2700 - open_run before)
    (third_week_end ((pos (length before) -ℤ pos b) -ℤ pos 1)) (third_week_end ((pos (length before) -ℤ pos a) -ℤ pos 1)) x y
    (ap (λ (n : ℕ). ends_paying n m before) h.owed) (ap (λ (n : ℕ). ends_owing n m before) h.owed) end h
