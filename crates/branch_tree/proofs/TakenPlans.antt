-- The plans of a whole round: that of one duty, and that of all least duties.
use Rattle.std.proofs.Common.{◌≡◌, ◌≢◌, ◌⊎◌, inl, inr, ℕ, zero, suc, ◌≤◌, true, List, [], ◌∷◌, ap, sym, subst, ◌∙◌, arith, ℤ, Some, slice_get}
use Rattle.duty_plan.specs.declared.duties.Duty.{Duty}
use Rattle.duty_plan.specs.declared.plans.Case.{Case}
use Rattle.duty_plan.specs.declared.plans.Plan.{Plan}
use Rattle.duty_plan.specs.declared.deciding.Pairs.{Pairs}
use Rattle.duty_plan.specs.declared.pricing.Prices.{Prices}
use Rattle.duty_plan.specs.declared.pricing.Priced.{Priced}
use Rattle.duty_plan.specs.declared.pricing.Priced.TheVariants.{Least, NoDuty, Spent}
use Rattle.duty_plan.specs.Duties.{IsLawfulPlan, cost_of_plan}
use Rattle.duty_plan.specs.Values.{IsDecided, IsLeast, lagrangian}
use Rattle.duty_plan.specs.Rounds.{IsRound, is_whole, values_of}
use Rattle.duty_plan.specs.Trees.{IsSingleDutyPlan, BeatsDuty}
use Rattle.price_master.specs.Laws.{ForcesOnce, IsLeastPlan}
use Rattle.price_master.proofs.Whole.{whole-values}
use Rattle.price_master.proofs.Decided.{is_exact}
use Rattle.price_master.proofs.Lookups.{same-or-not}
use Rattle.price_master.specs.declared.picking.Picked.{Picked}
use Rattle.price_master.specs.declared.picking.Picked.TheVariants.{Least as PickedLeast, Cut as PickedCut}
use Rattle.price_master.specs.declared.pooling.Pooled.{Pooled}
use Rattle.price_master.specs.Completing.{IsRest}
use Rattle.price_master.specs.Pools.{IsCutPlan, IsLeastPooled, IsPicked, IsPooled}
use Rattle.branch_tree.specs.Taking.{AreDutiesOf}

-- a plan that was picked from a pool costs no more than any plan of one pooled duty
pub picked-beats : (case : Case) (pool : List (List Pooled)) (picked : Picked) (plan : Plan) → IsPicked case pool picked →
    ((cost : ℕ) × (picked ≡ PickedLeast plan cost)) ⊎ ((cost : ℕ) × (picked ≡ PickedCut plan cost)) → IsLawfulPlan case plan ×
    ((driver : ℕ) (duty : Duty) → IsPooled pool driver duty → BeatsDuty case (cost_of_plan case plan) driver duty)
picked-beats case pool picked plan is (inl (cost, e)) =
    let least : IsLeastPooled case pool plan cost = subst (λ (x : Picked). IsPicked case pool x) e is in (
      least.pooled.lawful,
      λ driver duty pooled other lone.
          let low = least.least other (record { lawful = lone.lawful; pooled = λ k given h. by_driver driver duty other pooled lone k given h (same-or-not k driver) }) in
          omega (arith, low, least.costs),
    )
  where
    by_driver : (driver : ℕ) (duty : Duty) (other : Plan) → IsPooled pool driver duty → IsSingleDutyPlan case driver duty other → (k : ℕ) (given : Duty) →
        slice_get other.duties k ≡ Some given → (k ≡ driver) ⊎ (k ≢ driver) → (given.steps ≡ []) ⊎ IsPooled pool k given
    by_driver driver duty other pooled lone k given h (inr n) = inl (lone.others k given n h)
    by_driver driver duty other pooled lone k given h (inl e) =
        let its = lone.given in
        let at : slice_get other.duties driver ≡ Some given = ap (slice_get other.duties) (sym e) ∙ h in
        let same : duty ≡ given = cc in
        inr (subst (λ (n : ℕ). IsPooled pool n given) (sym e) (subst (λ (x : Duty). IsPooled pool driver x) same pooled))
picked-beats case pool picked plan is (inr (cost, e)) =
    let cut : IsCutPlan case pool plan cost = subst (λ (x : Picked). IsPicked case pool x) e is in
    (cut.pooled.lawful, λ driver duty pooled other lone. omega (arith, cut.beats driver duty pooled other lone, cut.costs))

value-there : (answers : List Priced) → is_whole answers ≡ true → (k : ℕ) (v : ℤ) → slice_get (values_of answers) k ≡ Some v →
    (d : Duty) × (slice_get answers k ≡ Some (Least v d))
value-there [] h k v e = cc
value-there (Least w d ∷ rest) h zero v e = let same : w ≡ v = cc in (d, ap (λ (x : ℤ). Some (Least x d)) same)
value-there (Least w d ∷ rest) h (suc k) v e = value-there rest h k v e
value-there (NoDuty ∷ rest) h k v e = cc
value-there (Spent n ∷ rest) h k v e = cc

-- at decided pairs, the plan of all least duties costs the Lagrangian value
pub taken-decided : (m : ℕ) (case : Case) (pairs : Pairs) (prices : Prices) (answers : List Priced) (duties : List Duty) (out : List ℕ) (cost : ℕ) →
    IsRound m case pairs prices answers → is_whole answers ≡ true → AreDutiesOf answers duties → IsRest case duties out →
    (IsLawfulPlan case (record { duties = duties; out = out }) → cost ≤ cost_of_plan case (record { duties = duties; out = out })) →
    IsDecided case.week pairs → ForcesOnce case.week pairs → cost ≤ lagrangian case.week pairs prices (values_of answers)
taken-decided m case pairs prices answers duties out cost r w a rest offered decided once =
    let exact = is_exact case pairs prices (values_of answers) (record { duties = duties; out = out }) decided once least in
    omega (arith, offered exact.0, exact.1)
  where
    least : IsLeastPlan case pairs prices (values_of answers) (record { duties = duties; out = out })
    least = record {
      duties = a.size ∙ r.drivers;
      values = (whole-values m case pairs prices answers r w).drivers;
      each = λ k v d e h.
          let found = value-there answers w k v e in
          let there = a.each k v found.0 found.1 in
          let same : found.0 ≡ d = cc in
          subst (λ (x : Duty). IsLeast case k pairs prices v x) same (r.each k (Least v found.0) found.1);
      rest = rest.rest;
      known = rest.known;
    }
