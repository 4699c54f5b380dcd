-- What a search keeps between two branchings, and which node and pair are next.
use Rattle.std.specs.Prelude.{◌≡◌, ◌≢◌, ◌⊎◌, ℕ, ◌<◌, ◌≤◌, Bool, true, List, [], ◌∷◌, length, Option, Some, None, slice_get, slice_index}
use Rattle.week_book.specs.declared.weeks.Week.{Week}
use Rattle.duty_plan.specs.declared.plans.Case.{Case}
use Rattle.duty_plan.specs.declared.plans.Plan.{Plan}
use Rattle.duty_plan.specs.declared.outcomes.Limits.{Limits}
use Rattle.duty_plan.specs.declared.nodes.Decision.{Decision}
use Rattle.duty_plan.specs.declared.nodes.Decision.TheVariants.{Root}
use Rattle.duty_plan.specs.declared.nodes.Node.{Node}
use Rattle.duty_plan.specs.declared.nodes.NodeStart.{NodeStart}
use Rattle.duty_plan.specs.declared.nodes.NodeState.TheVariants.{Open}
use Rattle.duty_plan.specs.declared.deciding.Pair.TheVariants.{Free}
use Rattle.duty_plan.specs.declared.deciding.Pairs.{Pairs}
use Rattle.duty_plan.specs.Values.{ArePairsOf, IsPrices, pair_at}
use Rattle.duty_plan.specs.Rounds.{Round}
use Rattle.duty_plan.specs.Nodes.{IsNode, path_of}
use Rattle.duty_plan.specs.Trees.{AreStartPrices}
use Rattle.branch_tree.specs.Growth.{IsKept, IsGrowing, IsNext}
use Rattle.branch_tree.specs.Leaving.{AreCounts}
use Rattle.branch_tree.specs.Reaching.{AreWeights}

-- the kept plan, a tree with a run for each node and the counts that each run leaves, and weights that say how far it can
-- grow
pub record IsSearching (case : Case) (limits : Limits) (plan : Plan) (cost : ℕ) (tree : List Node) (counts : List (List ℕ)) : Type 0 where
  pub runs : List (List Round)
  pub kept : IsKept case plan cost
  pub growing : IsGrowing case limits cost tree runs
  pub as_many : length counts ≡ length tree
  pub counted : (n : ℕ) (run : List Round) (count : List ℕ) → slice_get runs n ≡ Some run → slice_get counts n ≡ Some count → AreCounts case.week run count
  pub priced : (k : ℕ) (node : Node) → IsNode tree k node → IsPrices case.week node.prices
  pub weights : List ℕ
  pub weighed : AreWeights case.week tree weights

-- the node is the next to be branched
pub record IsNextNode (cost : ℕ) (tree : List Node) (number : ℕ) : Type 0 where
  pub node : Node
  pub is_node : IsNode tree number node
  pub open_leaf : node.state ≡ Open
  pub below : node.bound < cost
  pub next : IsNext cost tree number node

-- the root begins so: nothing is decided, its bound is 0, and its prices are the start prices
pub record IsRootStart (week : Week) (start : NodeStart) : Type 0 where
  pub pairs : ArePairsOf week (Root ∷ []) start.pairs
  pub bound : start.bound ≡ 0
  pub prices : AreStartPrices week start.prices

-- a child of the node of that number begins so: at the pairs of its path, with the node's bound and prices
pub record IsStartUnder (week : Week) (tree : List Node) (number : ℕ) (decision : Decision) (start : NodeStart) : Type 0 where
  pub pairs : ArePairsOf week (decision ∷ path_of tree number) start.pairs
  pub parent : (node : Node) → IsNode tree number node → (start.bound ≡ node.bound) × (start.prices ≡ node.prices)

-- no open leaf has a bound below the cost
abbrev pub HasNoNext : ℕ → List Node → Type 0
HasNoNext cost tree = (k : ℕ) (node : Node) → IsNode tree k node → node.state ≡ Open → cost ≤ node.bound

-- the Free pair of the least order, then of the least driver, among the orders whose count isn't 1, or among all where
-- there is none
pub record IsNextPair (week : Week) (pairs : Pairs) (counts : List ℕ) (driver order : ℕ) : Type 0 where
  pub in_week : (driver < length week.drivers) × (order < length week.orders)
  pub free : pair_at pairs driver order ≡ Free
  pub uneven : ((d o : ℕ) → d < length week.drivers → o < length week.orders → pair_at pairs d o ≡ Free → slice_index counts o ≡ 1) ⊎ (slice_index counts order ≢ 1)
  pub least : (d o : ℕ) → d < length week.drivers → o < length week.orders → pair_at pairs d o ≡ Free → (slice_index counts order ≢ 1 → slice_index counts o ≢ 1) →
      (order < o) ⊎ ((order ≡ o) × (driver ≤ d))

-- the order's count isn't 1, where that is asked
abbrev pub Passes : Bool → List ℕ → ℕ → Type 0
Passes uneven counts order = uneven ≡ true → slice_index counts order ≢ 1

-- the least driver for whom the order is Free, if there is one
abbrev pub IsFirstFree : Week → Pairs → ℕ → Option ℕ → Type 0
IsFirstFree week pairs order None = (d : ℕ) → d < length week.drivers → pair_at pairs d order ≢ Free
IsFirstFree week pairs order (Some driver) =
    (driver < length week.drivers) × (pair_at pairs driver order ≡ Free) × ((d : ℕ) → d < driver → pair_at pairs d order ≢ Free)

-- the first pair is before any other that passes
pub record IsFirstOf (week : Week) (pairs : Pairs) (counts : List ℕ) (uneven : Bool) (driver order : ℕ) : Type 0 where
  pub in_week : (driver < length week.drivers) × (order < length week.orders)
  pub free : pair_at pairs driver order ≡ Free
  pub passes : Passes uneven counts order
  pub least : (d o : ℕ) → d < length week.drivers → o < length week.orders → Passes uneven counts o → pair_at pairs d o ≡ Free →
      (order < o) ⊎ ((order ≡ o) × (driver ≤ d))

-- the first pair of those that pass, if there is one
abbrev pub IsFirstPair : Week → Pairs → List ℕ → Bool → Option (ℕ × ℕ) → Type 0
IsFirstPair week pairs counts uneven None =
    (d o : ℕ) → d < length week.drivers → o < length week.orders → Passes uneven counts o → pair_at pairs d o ≢ Free
IsFirstPair week pairs counts uneven (Some pair) = IsFirstOf week pairs counts uneven pair.0 pair.1
