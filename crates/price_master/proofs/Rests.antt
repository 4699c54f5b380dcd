-- What a plan's duties leave to be given away, one order after another.
use Rattle.std.proofs.Common.{◌≡◌, ◌≢◌, ◌⊎◌, inl, inr, ℕ, zero, suc, ◌+◌, ◌<◌, ◌≤◌, Bool, true, false, cond, eqb, List, [], ◌∷◌, ◌++◌, length, reverse, refl, ap, sym, subst, ◌∙◌, arith}
use Rattle.std.proofs.lemmas.Bool.Decides.{nat_tests}
use Rattle.duty_plan.specs.declared.duties.Duty.{Duty}
use Rattle.duty_plan.specs.declared.duties.Step.{Step}
use Rattle.duty_plan.specs.declared.plans.Case.{Case}
use Rattle.duty_plan.specs.PartialDuties.{PartialDuty, place_after}
use Rattle.duty_plan.specs.Duties.{EachOf, IsLawful, IsLawfulPartialDuty, IsLawfulPlan, carried, partial_of, times}
use Rattle.duty_plan.proofs.Sums.{times-append}
use Rattle.price_master.specs.Completing.{IsRest}
use Rattle.price_master.proofs.Lookups.{split, EarlierOrLast, same-or-not}

-- of the orders below n
pub record IsRestSoFar (duties : List Duty) (n : ℕ) (out : List ℕ) : Type 0 where
  pub rest : (o : ℕ) → o < n → times o out ≡ cond (eqb (times o (carried duties)) 0) 1 0
  pub later : (o : ℕ) → n ≤ o → times o out ≡ 0
  pub known : EachOf (λ k o. o < n) out

-- an order that is served
pub rest-skipped : (duties : List Duty) (n : ℕ) (out : List ℕ) → IsRestSoFar duties n out → 1 ≤ times n (carried duties) → IsRestSoFar duties (n + 1) out
rest-skipped duties n out r s = record {
  rest = λ o l. rest o l (same-or-not o n) (times n (carried duties)) refl;
  later = λ o l. r.later o (omega arith);
  known = λ k o h. omega (arith, r.known k o h);
}
  where
    rest : (o : ℕ) → o < n + 1 → (o ≡ n) ⊎ (o ≢ n) → (t : ℕ) → times n (carried duties) ≡ t → times o out ≡ cond (eqb (times o (carried duties)) 0) 1 0
    rest o l (inr d) t e = r.rest o (omega arith)
    rest o l (inl same) zero e = absurd (omega arith)
    rest o l (inl same) (suc t) e =
        let here : times o (carried duties) ≡ suc t = ap (λ m. times m (carried duties)) same ∙ e in
        let some : eqb (suc t) 0 ≡ false = grind (arith, nat_tests) in
        r.later o (omega arith) ∙ sym (rw (here, some) refl)

-- an order that isn't
pub rest-pushed : (duties : List Duty) (n : ℕ) (out more : List ℕ) → IsRestSoFar duties n out → times n (carried duties) ≡ 0 → more ≡ out ++ n ∷ [] →
    IsRestSoFar duties (n + 1) more
rest-pushed duties n out more r none e = subst (λ (x : List ℕ). IsRestSoFar duties (n + 1) x) (sym e) (record {
  rest = λ o l. rest o l (same-or-not o n);
  later = λ o l. later o l;
  known = λ k o h. known k o (split out n o k h);
})
  where
    last : (o : ℕ) (b : Bool) → eqb o n ≡ b → times o (n ∷ []) ≡ cond b 1 0
    last o true t = rw t refl
    last o false t = rw t refl

    rest : (o : ℕ) → o < n + 1 → (o ≡ n) ⊎ (o ≢ n) → times o (out ++ n ∷ []) ≡ cond (eqb (times o (carried duties)) 0) 1 0
    rest o l (inr d) =
        let t : eqb o n ≡ false = grind (arith, nat_tests) in
        let same : times o (out ++ n ∷ []) ≡ times o out = omega (arith, times-append o out (n ∷ []), last o false t) in
        same ∙ r.rest o (omega arith)
    rest o l (inl same) =
        let t : eqb o n ≡ true = grind (arith, nat_tests) in
        let here : times o (carried duties) ≡ 0 = ap (λ m. times m (carried duties)) same ∙ none in
        let one : times o (out ++ n ∷ []) ≡ 1 = omega (arith, times-append o out (n ∷ []), last o true t, r.later o (omega arith)) in
        one ∙ sym (rw here refl)

    later : (o : ℕ) → n + 1 ≤ o → times o (out ++ n ∷ []) ≡ 0
    later o l =
        let t : eqb o n ≡ false = grind (arith, nat_tests) in
        omega (arith, times-append o out (n ∷ []), last o false t, r.later o (omega arith))

    known : (k o : ℕ) → EarlierOrLast out n k o → o < n + 1
    known k o (inl g) = omega (arith, r.known k o g.1)
    known k o (inr g) = omega (arith, g.1)

-- lawful duties that serve no order twice, with the rest given away, are a lawful plan
pub completed-lawful : (case : Case) (duties : List Duty) (out : List ℕ) → length duties ≡ length case.week.drivers → EachOf (IsLawful case) duties →
    ((o : ℕ) → o < length case.week.orders → times o (carried duties) ≤ 1) → IsRest case duties out → IsLawfulPlan case (record { duties = duties; out = out })
completed-lawful case duties out size lawful one r = record {
  duties = size;
  lawful = lawful;
  once = λ o l. once o l (times o (carried duties)) refl;
  known = r.known;
}
  where
    once : (o : ℕ) → o < length case.week.orders → (t : ℕ) → times o (carried duties) ≡ t → times o (carried duties) + times o out ≡ 1
    once o l zero e = let out_is : times o out ≡ 1 = r.rest o l ∙ rw e refl in omega arith
    once o l (suc t) e =
        let some : eqb (suc t) 0 ≡ false = grind (arith, nat_tests) in
        let out_is : times o out ≡ 0 = r.rest o l ∙ rw (e, some) refl in omega (arith, one o l)

pub empty-lawful : (case : Case) (k : ℕ) (other : Duty) → other.steps ≡ [] → IsLawful case k other
empty-lawful case k other e =
    let none : partial_of other ≡ [] = ap (λ (xs : List Step). reverse xs) e in record {
      partial = subst (λ (x : PartialDuty). IsLawfulPartialDuty case k x) (sym none) (record { office = tt; hours = refl });
      home = ap place_after none;
    }
