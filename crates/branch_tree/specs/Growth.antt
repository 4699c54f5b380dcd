-- A tree while it grows: what holds of it between two branchings, and what it comes to at the end. The states of its
-- nodes are those that no fall of the kept cost changes; at the end each leaf whose bound has reached the cost is closed.
use Rattle.std.specs.Prelude.{◌≡◌, ◌≢◌, ◌⊎◌, ℕ, pred, ◌+◌, ◌<◌, ◌≤◌, Bool, true, false, ◌&&◌, ◌||◌, nat_le, if◌then◌else◌, List, [], ◌∷◌, ◌++◌, length, set, Some, slice_get}
use Rattle.week_book.specs.declared.weeks.Week.{Week}
use Rattle.duty_plan.specs.declared.plans.Case.{Case}
use Rattle.duty_plan.specs.declared.plans.Plan.{Plan}
use Rattle.duty_plan.specs.declared.outcomes.Limits.{Limits}
use Rattle.duty_plan.specs.declared.outcomes.Outcome.{Outcome}
use Rattle.duty_plan.specs.declared.outcomes.State.{State}
use Rattle.duty_plan.specs.declared.outcomes.State.TheVariants.{Proved, OpenLabels, OpenNodes}
use Rattle.duty_plan.specs.declared.nodes.Decision.{Decision}
use Rattle.duty_plan.specs.declared.nodes.Node.{Node}
use Rattle.duty_plan.specs.declared.nodes.NodeState.{NodeState}
use Rattle.duty_plan.specs.declared.nodes.NodeState.TheVariants.{Branched, Closed, Empty, Open, Spent}
use Rattle.duty_plan.specs.declared.deciding.Pair.TheVariants.{Free}
use Rattle.duty_plan.specs.declared.deciding.Pairs.{Pairs}
use Rattle.duty_plan.specs.declared.pricing.Prices.{Prices}
use Rattle.duty_plan.specs.Values.{ArePairsOf, cost_of_all, decided_by}
use Rattle.duty_plan.specs.LabelLists.{chunks_for}
use Rattle.duty_plan.specs.Rounds.{Round, ArePricingRounds}
use Rattle.duty_plan.specs.Nodes.{path_of, IsNode, IsTree}
use Rattle.duty_plan.specs.Branching.{IsBranchingPair}
use Rattle.duty_plan.specs.Trees.{HasRun, BeatsDuties, EndsEmpty, EndsSpent, IsBranchedByRule, IsPlanAtCost}

-- the kept plan is lawful, costs so much, and no more than giving all orders away
abbrev pub IsKept : Case → Plan → ℕ → Type 0
IsKept case plan cost = IsPlanAtCost case plan cost

-- some driver and order are Free on the path
abbrev pub HasFreeOn : Week → List Decision → Type 0
HasFreeOn week path = (driver : ℕ) × (order : ℕ) × (driver < length week.drivers) × (order < length week.orders) ×
    (decided_by path driver order ≡ Free)

-- what the state of a node says before the end: that of a Spent or Open one nothing of its bound
pub record IsHeld (week : Week) (cost : ℕ) (path : List Decision) (node : Node) (rounds : List Round) : Type 0 where
  pub branched : node.state ≡ Branched → EndsEmpty rounds → ⊥
  pub empty : node.state ≡ Empty → EndsEmpty rounds
  pub closed : node.state ≡ Closed → (EndsEmpty rounds → ⊥) × (cost ≤ node.bound)
  pub spent : node.state ≡ Spent → (HasFreeOn week path → ⊥) × EndsSpent rounds
  pub open_leaf : node.state ≡ Open → HasFreeOn week path × (EndsEmpty rounds → ⊥)

-- what a node's rounds leave, at the end of this path, from the bound and the prices of its parent: a leaf with its run
pub record IsRanNode (case : Case) (limits : Limits) (cost : ℕ) (path : List Decision) (first : ℕ) (before : Prices) (node : Node) (rounds : List Round) : Type 0 where
  pub pairs : Pairs
  pub are_pairs : ArePairsOf case.week path pairs
  pub run : ArePricingRounds (chunks_for limits.labels) case limits.rounds (record { pairs = pairs; bound = first; prices = before }) cost node.bound
      node.prices rounds
  pub beats : BeatsDuties case cost rounds
  pub held : IsHeld case.week cost path node rounds
  pub leaf : node.state ≢ Branched
  pub unseen : node.seen ≡ 0

-- a tree that may grow, with a run for each of its nodes, while the kept plan costs so much
pub record IsGrowing (case : Case) (limits : Limits) (cost : ℕ) (tree : List Node) (runs : List (List Round)) : Type 0 where
  pub few : length tree ≤ limits.nodes
  pub shape : IsTree case.week tree
  pub all_runs : length runs ≡ length tree
  pub each : (k : ℕ) (node : Node) (run : List Round) → IsNode tree k node → slice_get runs (pred k) ≡ Some run →
      HasRun case limits cost tree k node run × BeatsDuties case cost run × IsHeld case.week cost (path_of tree k) node run
  pub branching : IsBranchedByRule case.week cost tree runs

-- the node is branched while the kept plan costs so much
abbrev pub turned : ℕ → Node → Node
turned cost node = record node { seen = cost; state = Branched }

-- the tree where the node of that number is branched and its children follow
abbrev pub branched_at : List Node → ℕ → ℕ → Node → Node → Node → List Node
branched_at tree number cost node forcing barring = set tree (pred number) (turned cost node) ++ forcing ∷ barring ∷ []

-- no open leaf with a bound below the cost comes before that one: the least bound is first, then the least number
abbrev pub IsNext : ℕ → List Node → ℕ → Node → Type 0
IsNext cost tree number node = (j : ℕ) (other : Node) → IsNode tree j other → other.state ≡ Open → other.bound < cost →
    (node.bound < other.bound) ⊎ ((node.bound ≡ other.bound) × (number ≤ j))

-- a node that is to be branched, at that driver and order
pub record IsChosen (case : Case) (limits : Limits) (cost : ℕ) (tree : List Node) (runs : List (List Round)) (number : ℕ) (node : Node) (driver order : ℕ) : Type 0 where
  pub is_node : IsNode tree number node
  pub open_leaf : node.state ≡ Open
  pub below : node.bound < cost
  pub cheap : cost ≤ cost_of_all case.week
  pub room : length tree + 2 ≤ limits.nodes
  pub next : IsNext cost tree number node
  pub in_week : (driver < length case.week.drivers) × (order < length case.week.orders)
  pub pick : (run : List Round) → slice_get runs (pred number) ≡ Some run → IsBranchingPair case.week tree number run driver order

-- the node is an open or spent leaf
abbrev pub is_unsettled : NodeState → Bool
is_unsettled Branched = false
is_unsettled Closed = false
is_unsettled Empty = false
is_unsettled Open = true
is_unsettled Spent = true

-- at the end, an open or spent leaf whose bound has reached the cost is closed
abbrev pub settled : ℕ → Node → Node
settled cost node = if is_unsettled node.state && nat_le cost node.bound then record node { state = Closed } else node

-- the state is Open
abbrev pub is_open : NodeState → Bool
is_open Branched = false
is_open Closed = false
is_open Empty = false
is_open Open = true
is_open Spent = false

-- an Open leaf is there
abbrev pub has_open : List Node → Bool
has_open [] = false
has_open (node ∷ rest) = is_open node.state || has_open rest

-- an Open or Spent leaf is there
abbrev pub has_unsettled : List Node → Bool
has_unsettled [] = false
has_unsettled (node ∷ rest) = is_unsettled node.state || has_unsettled rest

-- the lesser of a bound so far and that of an Open or Spent leaf
abbrev pub lower_bound : ℕ → Node → ℕ
lower_bound least node = if is_unsettled node.state && nat_le node.bound least then node.bound else least

-- the least of a first bound and the bounds of the Open and Spent leaves
abbrev pub least_bound : ℕ → List Node → ℕ
least_bound first [] = first
least_bound first (node ∷ rest) = lower_bound (least_bound first rest) node

-- how the search ended
abbrev pub state_of : List Node → State
state_of tree = if has_open tree then OpenNodes else (if has_unsettled tree then OpenLabels else Proved)

-- the outcome of a plan with its tree, whose leaves are settled
abbrev pub outcome_of : Plan → ℕ → List Node → Outcome
outcome_of plan cost tree =
    record { plan = plan; cost = cost; bound = least_bound cost tree; tree = tree; state = state_of tree }

-- no open leaf has a bound below the cost, or no two more nodes fit
abbrev pub IsGrown : Limits → ℕ → List Node → Type 0
IsGrown limits cost tree = ((k : ℕ) (node : Node) → IsNode tree k node → node.state ≡ Open → cost ≤ node.bound) ⊎ (limits.nodes ≤ length tree + 1)
