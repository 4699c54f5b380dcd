-- The prices and the bound that a run leaves.
use Rattle.std.proofs.Common.{◌≡◌, ◌⊎◌, inl, inr, ℕ, zero, suc, ◌≤◌, List, sym, subst, arith, Some, slice_get}
use Rattle.duty_plan.specs.declared.plans.Case.{Case}
use Rattle.duty_plan.specs.declared.nodes.NodeStart.{NodeStart}
use Rattle.duty_plan.specs.declared.plans.Plan.{Plan}
use Rattle.duty_plan.specs.declared.pricing.Prices.{Prices}
use Rattle.duty_plan.specs.Duties.{IsLawfulPlan, cost_of_plan}
use Rattle.duty_plan.specs.Values.{IsPlanInside, IsPrices, lagrangian}
use Rattle.duty_plan.specs.Rounds.{Round, ArePricingRounds, IsFirstAt, values_of}
use Rattle.duty_plan.proofs.Lists.{slice_get-lt}
use Rattle.price_master.proofs.Duality.{is_below}
use Rattle.price_master.proofs.Carried.{get-below}
use Rattle.price_master.proofs.Whole.{whole-values, next-prices}

-- the prices of all rounds stay within their limits
pub run-prices : (m : ℕ) (case : Case) (most : ℕ) (start : NodeStart) (cost bound : ℕ) (kept : Prices) (rounds : List Round) →
    ArePricingRounds m case most start cost bound kept rounds → IsPrices case.week start.prices → (k : ℕ) (round : Round) →
    slice_get rounds k ≡ Some round → IsPrices case.week round.prices
run-prices m case most start cost bound kept rounds r p zero round e =
    subst (λ (x : Prices). IsPrices case.week x) (sym (r.begins round e)) p
run-prices m case most start cost bound kept rounds r p (suc k) round e =
    let found = get-below rounds k (omega (arith, slice_get-lt rounds (suc k) round e)) in
    next-prices case.week k _ found.0.prices round.prices
    (run-prices m case most start cost bound kept rounds r p k found.0 found.1) (r.moves k found.0 round found.1 e)

-- the prices that a node keeps are within their limits
pub kept-prices : (m : ℕ) (case : Case) (most : ℕ) (start : NodeStart) (cost bound : ℕ) (kept : Prices) (rounds : List Round) →
    ArePricingRounds m case most start cost bound kept rounds → IsPrices case.week start.prices → IsPrices case.week kept
kept-prices m case most start cost bound kept rounds r p = by_from r.best.from
  where
    by_from : ((bound ≡ start.bound) × (kept ≡ start.prices)) ⊎ IsFirstAt case.week start rounds bound kept → IsPrices case.week kept
    by_from (inl g) = subst (λ (x : Prices). IsPrices case.week x) (sym g.1) p
    by_from (inr g) = subst (λ (x : Prices). IsPrices case.week x) g.prices
        (run-prices m case most start cost bound kept rounds r p g.number g.round g.is_round)

-- a bound that came from its rounds, or from its parent, is at most the cost of a plan inside
pub bound-below : (m : ℕ) (case : Case) (most : ℕ) (start : NodeStart) (cost bound : ℕ) (kept : Prices) (rounds : List Round) (plan : Plan) →
    ArePricingRounds m case most start cost bound kept rounds → IsPrices case.week start.prices → start.bound ≤ cost_of_plan case plan →
    IsLawfulPlan case plan → IsPlanInside case.week start.pairs plan → bound ≤ cost_of_plan case plan
bound-below m case most start cost bound kept rounds plan r p l lawful inside = by_from r.best.from
  where
    by_from : ((bound ≡ start.bound) × (kept ≡ start.prices)) ⊎ IsFirstAt case.week start rounds bound kept → bound ≤ cost_of_plan case plan
    by_from (inl g) = omega arith
    by_from (inr g) =
        let priced = run-prices m case most start cost bound kept rounds r p g.number g.round g.is_round in
        let values = whole-values m case start.pairs g.round.prices g.round.answers (r.each g.number g.round g.is_round) g.whole in
        let low : lagrangian case.week start.pairs g.round.prices (values_of g.round.answers) ≤ cost_of_plan case plan =
        is_below case start.pairs g.round.prices (values_of g.round.answers) plan priced values lawful inside in
        omega (arith, g.value)
