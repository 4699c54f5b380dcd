-- Runs towards a smaller cost.
use Rattle.std.proofs.Common.{◌≡◌, ◌⊎◌, inl, inr, ℕ, ◌≤◌, List, length, arith}
use Rattle.duty_plan.specs.declared.plans.Case.{Case}
use Rattle.duty_plan.specs.declared.nodes.NodeStart.{NodeStart}
use Rattle.duty_plan.specs.declared.pricing.Prices.{Prices}
use Rattle.duty_plan.specs.Values.{IsDecided}
use Rattle.duty_plan.specs.Rounds.{Round, ArePricingRounds}

-- only the end of a run speaks of the cost
pub keeps_runs : (m : ℕ) (case : Case) (most : ℕ) (start : NodeStart) (cost less bound : ℕ) (kept : Prices) (rounds : List Round) →
    less ≤ cost → ArePricingRounds m case most start cost bound kept rounds → ArePricingRounds m case most start less bound kept rounds
keeps_runs m case most start cost less bound kept rounds l r = record {
  some = r.some;
  begins = r.begins;
  moves = r.moves;
  each = r.each;
  whole = r.whole;
  ends = λ round h w. lower (r.ends round h w);
  best = r.best;
}
  where
    lower : (length rounds ≡ most) ⊎ (IsDecided case.week start.pairs ⊎ (cost ≤ bound)) → (length rounds ≡ most) ⊎ (IsDecided case.week start.pairs ⊎ (less ≤ bound))
    lower (inl g) = inl g
    lower (inr (inl g)) = inr (inl g)
    lower (inr (inr g)) = inr (inr (omega arith))
