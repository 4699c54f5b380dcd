-- Laws on nodes and outcomes: children share out the plans, runs last while the cost falls, and a right outcome's bound is
-- below every lawful plan.
use Rattle.std.specs.Prelude.{◌≡◌, ◌⊎◌, ℕ, ◌<◌, ◌≤◌, List, ◌∷◌, length}
use Rattle.week_book.specs.declared.weeks.Week.{Week}
use Rattle.duty_plan.specs.declared.plans.Case.{Case}
use Rattle.duty_plan.specs.declared.plans.Plan.{Plan}
use Rattle.duty_plan.specs.declared.deciding.Pair.TheVariants.{Free}
use Rattle.duty_plan.specs.declared.deciding.Pairs.{Pairs}
use Rattle.duty_plan.specs.declared.pricing.Prices.{Prices}
use Rattle.duty_plan.specs.declared.nodes.Node.{Node}
use Rattle.duty_plan.specs.declared.nodes.NodeStart.{NodeStart}
use Rattle.duty_plan.specs.declared.nodes.Decision.{Decision}
use Rattle.duty_plan.specs.declared.nodes.Decision.TheVariants.{Forced as forces, Barred as bars}
use Rattle.duty_plan.specs.declared.outcomes.Limits.{Limits}
use Rattle.duty_plan.specs.declared.outcomes.Outcome.{Outcome}
use Rattle.duty_plan.specs.Duties.{IsLawfulPlan, cost_of_plan}
use Rattle.duty_plan.specs.Values.{IsPlanInside, ArePairsOf, pair_at}
use Rattle.duty_plan.specs.Rounds.{Round, ArePricingRounds}
use Rattle.duty_plan.specs.Nodes.{IsNode, IsTree, path_of}
use Rattle.duty_plan.specs.Trees.{IsRight, IsLimits}
use Rattle.price_master.specs.Laws.{ForcesOnce}

-- one of two, and not the other
abbrev pub JustOne : Type 0 → Type 0 → Type 0
JustOne A B = (A × (B → ⊥)) ⊎ (B × (A → ⊥))

-- a lawful plan inside a node's pairs is inside those of just one of two children, the one of which forces a driver and an
-- order that are Free at the node, and the other bars them
abbrev pub SplitsPlans : Type 0
SplitsPlans = (case : Case) (path : List Decision) (driver order : ℕ) (node forcing barring : Pairs) (plan : Plan) →
    driver < length case.week.drivers → order < length case.week.orders → pair_at node driver order ≡ Free →
    ArePairsOf case.week path node → ArePairsOf case.week (forces driver order ∷ path) forcing →
    ArePairsOf case.week (bars driver order ∷ path) barring → IsLawfulPlan case plan → IsPlanInside case.week node plan →
    JustOne (IsPlanInside case.week forcing plan) (IsPlanInside case.week barring plan)

-- no node of a tree forces an order for two drivers
abbrev pub NodesForceOnce : Type 0
NodesForceOnce = (week : Week) (tree : List Node) (k : ℕ) (node : Node) (pairs : Pairs) → IsTree week tree → IsNode tree k node →
    ArePairsOf week (path_of tree k) pairs → ForcesOnce week pairs

-- a run towards a cost is one towards any smaller cost
abbrev pub KeepsRuns : Type 0
KeepsRuns = (m : ℕ) (case : Case) (most : ℕ) (start : NodeStart) (cost less bound : ℕ) (kept : Prices) (rounds : List Round) →
    less ≤ cost → ArePricingRounds m case most start cost bound kept rounds → ArePricingRounds m case most start less bound kept rounds

-- no lawful plan costs less than the bound of a right outcome
abbrev pub IsNoCheaper : Type 0
IsNoCheaper = (case : Case) (limits : Limits) (outcome : Outcome) (plan : Plan) → IsRight case limits outcome → IsLawfulPlan case plan →
    outcome.bound ≤ cost_of_plan case plan

-- a week without drivers has a right outcome
abbrev pub HasRightOutcome : Type 0
HasRightOutcome = (case : Case) (limits : Limits) → IsLimits limits → length case.week.drivers ≡ 0 → (outcome : Outcome) × IsRight case limits outcome
