-- A lawful plan inside a node is inside just one of its two children.
use Rattle.std.proofs.Common.{◌≡◌, ◌≢◌, ◌&&◌, ◌||◌, ◌⊎◌, inl, inr, not, ℕ, ◌<◌, Bool, true, false, List, ◌∷◌, length, refl, ap, sym, ◌∙◌, arith, eqb, Some, slice_get}
use Rattle.duty_plan.specs.declared.duties.Duty.{Duty}
use Rattle.duty_plan.specs.declared.plans.Case.{Case}
use Rattle.duty_plan.specs.declared.plans.Plan.{Plan}
use Rattle.duty_plan.specs.declared.deciding.Pairs.{Pairs}
use Rattle.duty_plan.specs.declared.nodes.Decision.{Decision}
use Rattle.duty_plan.specs.declared.nodes.Decision.TheVariants.{Forced as forces, Barred as bars}
use Rattle.duty_plan.specs.declared.deciding.Pair.TheVariants.{Free, Forced, Barred}
use Rattle.duty_plan.specs.PartialDuties.{serves}
use Rattle.duty_plan.specs.Duties.{partial_of, IsLawfulPlan}
use Rattle.duty_plan.specs.Values.{pair_at, IsPlanInside, ArePairsOf, forced_by, barred_by, is_pair}
use Rattle.branch_tree.specs.Laws.{JustOne}
use Rattle.duty_plan.proofs.Lists.{slice_get-lt}
use Rattle.price_master.proofs.Duality.{or_parts}
use Rattle.price_master.proofs.Carried.{served_twice, get-below, or_cases}
use Rattle.price_master.proofs.Decisions.{is-forced, is-barred, is-free, is-pair, pair-same, other-pair, path-forced, path-barred}

-- inside the child that forces the pair, where the driver's duty serves the order
inside-forcing : (case : Case) (path : List Decision) (d o : ℕ) (node forcing : Pairs) (plan : Plan) (duty : Duty) →
    d < length case.week.drivers → o < length case.week.orders → ArePairsOf case.week path node →
    ArePairsOf case.week (forces d o ∷ path) forcing → IsLawfulPlan case plan → IsPlanInside case.week node plan →
    slice_get plan.duties d ≡ Some duty → serves o (partial_of duty) ≡ true → IsPlanInside case.week forcing plan
inside-forcing case path d o node forcing plan duty ld lo pn pf lawful inside has serving k other e = record {
  forced = λ q l h. by_forced q l (or_cases _ _ (is-forced _ _ (sym (pf.each k q lk l) ∙ h)));
  barred = λ q l h. let t = is-barred _ _ (sym (pf.each k q lk l) ∙ h) in by_barred q l t.0 (or_cases _ _ t.1);
}
  where
    lk : k < length case.week.drivers
    lk = omega (arith, slice_get-lt plan.duties k other e, lawful.duties)

    by_forced : (q : ℕ) → q < length case.week.orders →
        (is_pair k q d o ≡ true) ⊎ ((is_pair k q d o ≡ false) × (forced_by k q path ≡ true)) → serves q (partial_of other) ≡ true
    by_forced q l (inl g) =
        let same = is-pair k q d o g in
        let at : slice_get plan.duties k ≡ Some duty = ap (slice_get plan.duties) same.0 ∙ has in
        let is : duty ≡ other = cc in
        ap (λ (x : Duty). serves q (partial_of x)) (sym is) ∙ (ap (λ (x : ℕ). serves x (partial_of duty)) same.1 ∙ serving)
    by_forced q l (inr g) = (inside k other e).forced q l (path-forced case.week path node k q lk l pn g.1)

    unserved : (b : Bool) (q : ℕ) → serves q (partial_of other) ≡ b → k ≢ d → q ≡ o → serves q (partial_of other) ≡ false
    unserved false q s n same = s
    unserved true q s n same =
        let also : serves o (partial_of other) ≡ true = ap (λ (x : ℕ). serves x (partial_of other)) (sym same) ∙ s in
        absurd (omega (arith, lawful.once o lo, served_twice o k d plan.duties other duty n e has also serving))

    by_barred : (q : ℕ) → q < length case.week.orders → (is_pair k q d o || forced_by k q path) ≡ false →
        ((not (eqb k d) && eqb q o) ≡ true) ⊎ (((not (eqb k d) && eqb q o) ≡ false) × (barred_by k q path ≡ true)) →
        serves q (partial_of other) ≡ false
    by_barred q l f (inl g) = let t = other-pair k q d o g in unserved (serves q (partial_of other)) q refl t.0 t.1
    by_barred q l f (inr g) =
        (inside k other e).barred q l (path-barred case.week path node k q lk l pn (or_parts _ _ f).1 g.1)

-- inside the child that bars the pair, where the driver's duty does not serve the order
inside-barring : (case : Case) (path : List Decision) (d o : ℕ) (node barring : Pairs) (plan : Plan) (duty : Duty) →
    ArePairsOf case.week path node → ArePairsOf case.week (bars d o ∷ path) barring → IsLawfulPlan case plan →
    IsPlanInside case.week node plan → slice_get plan.duties d ≡ Some duty → serves o (partial_of duty) ≡ false →
    IsPlanInside case.week barring plan
inside-barring case path d o node barring plan duty pn pb lawful inside has idle k other e = record {
  forced = λ q l h. (inside k other e).forced q l (path-forced case.week path node k q lk l pn (is-forced _ _ (sym (pb.each k q lk l) ∙ h)));
  barred = λ q l h. let t = is-barred _ _ (sym (pb.each k q lk l) ∙ h) in by_barred q l t.0 (or_cases _ _ t.1);
}
  where
    lk : k < length case.week.drivers
    lk = omega (arith, slice_get-lt plan.duties k other e, lawful.duties)

    by_barred : (q : ℕ) → q < length case.week.orders → forced_by k q path ≡ false →
        (is_pair k q d o ≡ true) ⊎ ((is_pair k q d o ≡ false) × (barred_by k q path ≡ true)) → serves q (partial_of other) ≡ false
    by_barred q l f (inl g) =
        let same = is-pair k q d o g in
        let at : slice_get plan.duties k ≡ Some duty = ap (slice_get plan.duties) same.0 ∙ has in
        let is : duty ≡ other = cc in
        ap (λ (x : Duty). serves q (partial_of x)) (sym is) ∙ (ap (λ (x : ℕ). serves x (partial_of duty)) same.1 ∙ idle)
    by_barred q l f (inr g) = (inside k other e).barred q l (path-barred case.week path node k q lk l pn f g.1)

pub splits : (case : Case) (path : List Decision) (driver order : ℕ) (node forcing barring : Pairs) (plan : Plan) →
    driver < length case.week.drivers → order < length case.week.orders → pair_at node driver order ≡ Free →
    ArePairsOf case.week path node → ArePairsOf case.week (forces driver order ∷ path) forcing →
    ArePairsOf case.week (bars driver order ∷ path) barring → IsLawfulPlan case plan → IsPlanInside case.week node plan →
    JustOne (IsPlanInside case.week forcing plan) (IsPlanInside case.week barring plan)
splits case path d o node forcing barring plan ld lo free pn pf pb lawful inside =
    let found = get-below plan.duties d (omega (arith, lawful.duties)) in
    by_service found.0 found.1 (serves o (partial_of found.0)) refl
  where
    barred-there : pair_at barring d o ≡ Barred
    barred-there =
        let none = is-free _ _ (sym (pn.each d o ld lo) ∙ free) in
        let e : (is_pair d o d o || barred_by d o path) ≡ true = rw (pair-same d o) refl in
        path-barred case.week (bars d o ∷ path) barring d o ld lo pb none.0 e

    forced-there : pair_at forcing d o ≡ Forced
    forced-there =
        let e : (is_pair d o d o || forced_by d o path) ≡ true = rw (pair-same d o) refl in
        path-forced case.week (forces d o ∷ path) forcing d o ld lo pf e

    by_service : (duty : Duty) → slice_get plan.duties d ≡ Some duty → (b : Bool) → serves o (partial_of duty) ≡ b →
        JustOne (IsPlanInside case.week forcing plan) (IsPlanInside case.week barring plan)
    by_service duty has true s = inl (
      inside-forcing case path d o node forcing plan duty ld lo pn pf lawful inside has s,
      λ other. let no = (other d duty has).barred o lo barred-there in cc,
    )
    by_service duty has false s = inr (
      inside-barring case path d o node barring plan duty pn pb lawful inside has s,
      λ other. let yes = (other d duty has).forced o lo forced-there in cc,
    )
