-- The plan that gives all orders away.
use Rattle.std.proofs.Common.{◌≡◌, ◌≢◌, ◌⊎◌, inl, inr, ℕ, zero, suc, ◌+◌, ◌<◌, ◌≤◌, Bool, true, false, cond, List, [], ◌∷◌, ◌++◌, length, replicate, refl, ap, sym, subst, ◌∙◌, arith, eqb, Some, slice_get}
use Rattle.std.proofs.lemmas.Bool.Decides.{nat_tests}
use Rattle.duty_plan.specs.declared.duties.Duty.{Duty}
use Rattle.duty_plan.specs.declared.plans.Case.{Case}
use Rattle.duty_plan.specs.Duties.{IsLawful, IsLawfulPlan, carried, cost_of_duties, cost_of_plan, times, worth, price_of}
use Rattle.duty_plan.specs.Sums.{total_below}
use Rattle.duty_plan.proofs.Sums.{times-append, worth-append}
use Rattle.duty_plan.proofs.Home.{replicate_at, length_replicated}
use Rattle.price_master.proofs.Lookups.{split, EarlierOrLast, same-or-not}
use Rattle.branch_tree.specs.Growth.{IsKept}
use Rattle.branch_tree.specs.Keeping.{AreAllOrders}

pub no-orders : AreAllOrders 0 []
no-orders = record { once = λ o l. absurd (omega arith); none = λ o l. refl; known = λ k o h. cc; worths = λ f. refl }

pub one-order-more : (n : ℕ) (out more : List ℕ) → AreAllOrders n out → more ≡ out ++ n ∷ [] → AreAllOrders (n + 1) more
one-order-more n out more a e = subst (λ (x : List ℕ). AreAllOrders (n + 1) x) (sym e) (record {
  once = λ o l. once o l (same-or-not o n);
  none = λ o l. none o l;
  known = λ k o h. known k o (split out n o k h);
  worths = λ f. worths f;
})
  where
    last : (o : ℕ) (b : Bool) → eqb o n ≡ b → times o (n ∷ []) ≡ cond b 1 0
    last o true t = rw t refl
    last o false t = rw t refl

    once : (o : ℕ) → o < n + 1 → (o ≡ n) ⊎ (o ≢ n) → times o (out ++ n ∷ []) ≡ 1
    once o l (inl same) =
        let t : eqb o n ≡ true = grind (arith, nat_tests) in
        omega (arith, times-append o out (n ∷ []), last o true t, a.none o (omega arith))
    once o l (inr other) =
        let t : eqb o n ≡ false = grind (arith, nat_tests) in
        omega (arith, times-append o out (n ∷ []), last o false t, a.once o (omega arith))

    none : (o : ℕ) → n + 1 ≤ o → times o (out ++ n ∷ []) ≡ 0
    none o l =
        let t : eqb o n ≡ false = grind (arith, nat_tests) in
        omega (arith, times-append o out (n ∷ []), last o false t, a.none o (omega arith))

    known : (k o : ℕ) → EarlierOrLast out n k o → o < n + 1
    known k o (inl g) = omega (arith, a.known k o g.1)
    known k o (inr g) = omega (arith, g.1)

    worths : (f : ℕ → ℕ) → worth f (out ++ n ∷ []) ≡ total_below f (n + 1)
    worths f =
        let one : worth f (n ∷ []) ≡ f n + 0 = refl in
        let same : n + 1 ≡ suc n = omega arith in
        let step : total_below f (n + 1) ≡ f n + total_below f n = ap (total_below f) same in
        omega (arith, worth-append f out (n ∷ []), a.worths f)

none-carried : (o n : ℕ) → times o (carried (replicate n (record { steps = [] }))) ≡ 0
none-carried o zero = refl
none-carried o (suc n) = none-carried o n

homes-cost : (case : Case) (driver n : ℕ) → cost_of_duties case driver (replicate n (record { steps = [] })) ≡ 0
homes-cost case driver zero = refl
homes-cost case driver (suc n) = omega (arith, homes-cost case (driver + 1) n)

pub first-lawful : (case : Case) (duties : List Duty) (out : List ℕ) → duties ≡ replicate (length case.week.drivers) (record { steps = [] }) →
    AreAllOrders (length case.week.orders) out → IsLawfulPlan case (record { duties = duties; out = out })
first-lawful case duties out e a = record {
  duties = ap length e ∙ length_replicated (length case.week.drivers) (record { steps = [] });
  lawful = λ k duty h.
      let there : slice_get (replicate (length case.week.drivers) (record { steps = [] })) k ≡ Some duty = ap (λ xs. slice_get xs k) (sym e) ∙ h in
      subst (λ (d : Duty). IsLawful case k d) (replicate_at (length case.week.drivers) k (record { steps = [] }) duty there).0
      (record { partial = record { office = tt; hours = refl }; home = refl });
  once = λ o l. let nobody : times o (carried duties) ≡ 0 = ap (λ xs. times o (carried xs)) e ∙ none-carried o (length case.week.drivers) in
      omega (arith, a.once o l);
  known = a.known;
}

pub first-kept : (case : Case) (duties : List Duty) (out : List ℕ) (cost : ℕ) → duties ≡ replicate (length case.week.drivers) (record { steps = [] }) →
    AreAllOrders (length case.week.orders) out → cost ≡ cost_of_plan case (record { duties = duties; out = out }) →
    IsKept case (record { duties = duties; out = out }) cost
first-kept case duties out cost e a c =
    let nothing : cost_of_duties case 0 duties ≡ 0 = ap (cost_of_duties case 0) e ∙ homes-cost case 0 (length case.week.drivers) in
    let all = a.worths (price_of case.week) in record {
      lawful = first-lawful case duties out e a;
      costs = sym c;
      cheap = omega arith;
    }
