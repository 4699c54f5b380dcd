-- Which node is branched next, and at which driver and order.
use Rattle.std.specs.Prelude.{◌≡◌, ◌≢◌, ◌⊎◌, ℕ, ◌<◌, ◌≤◌, true, List, length, Some, slice_get}
use Rattle.week_book.specs.declared.weeks.Week.{Week}
use Rattle.duty_plan.specs.declared.nodes.Decision.TheVariants.{Forced as forces}
use Rattle.duty_plan.specs.declared.nodes.Node.{Node}
use Rattle.duty_plan.specs.declared.nodes.NodeState.TheVariants.{Branched, Empty}
use Rattle.duty_plan.specs.Values.{cost_of_all}
use Rattle.duty_plan.specs.Rounds.{Round, is_whole, carriers}
use Rattle.duty_plan.specs.Nodes.{IsNode, IsFreeAt, HasFree}

-- a node that may be branched when the next node is numbered `child` and the kept plan costs `seen`: it is there, was not
-- branched by then, is not Empty, isn't decided, and has a bound below that cost
pub record IsCandidate (week : Week) (tree : List Node) (child seen number : ℕ) (node : Node) : Type 0 where
  pub is_node : IsNode tree number node
  pub earlier : number < child
  pub unbranched : (k : ℕ) (other : Node) → IsNode tree k other → k < child → other.parent ≡ number → ⊥
  pub not_empty : node.state ≢ Empty
  pub free : HasFree week tree number
  pub below : node.bound < seen

-- the best node is branched first: when a node was branched, no candidate had a smaller bound, and none of the same bound
-- a smaller number
abbrev pub IsBestFirst : Week → List Node → Type 0
IsBestFirst week tree = (k child : ℕ) (node forcing other : Node) (j : ℕ) → IsNode tree k node → IsNode tree child forcing →
    forcing.parent ≡ k → (d o : ℕ) → forcing.decision ≡ forces d o → IsCandidate week tree child node.seen j other →
    (node.bound < other.bound) ⊎ ((node.bound ≡ other.bound) × (k ≤ j))

-- what the kept plan cost when a node was branched: above the node's bound, from the final cost to the cost of giving all
-- orders away, and never rising in the order of branching; 0 for a node that was not branched
pub record HasIncumbentCosts (week : Week) (cost : ℕ) (tree : List Node) : Type 0 where
  pub unbranched : (k : ℕ) (node : Node) → IsNode tree k node → node.state ≢ Branched → node.seen ≡ 0
  pub branched : (k : ℕ) (node : Node) → IsNode tree k node → node.state ≡ Branched →
      (node.bound < node.seen) × (cost ≤ node.seen) × (node.seen ≤ cost_of_all week)
  pub falls : (j k : ℕ) (first second a b : Node) → j < k → IsNode tree j first → IsNode tree k second →
      IsNode tree first.parent a → IsNode tree second.parent b → b.seen ≤ a.seen

-- the order is uneven after a run: there is a whole round, and in the last of them not just one duty carries the order
abbrev pub ViolatesCover : List Round → ℕ → Type 0
ViolatesCover rounds order = (k : ℕ) × (round : Round) × (slice_get rounds k ≡ Some round) × (is_whole round.answers ≡ true) ×
    ((j : ℕ) (later : Round) → k < j → slice_get rounds j ≡ Some later → is_whole later.answers ≡ true → ⊥) × (carriers order round.answers ≢ 1)

-- the driver and order at which a node is branched: of those that are Free there, the one of the least order, then of the
-- least driver, among the uneven orders, or among all orders where no uneven one is Free for a driver
pub record IsBranchingPair (week : Week) (tree : List Node) (number : ℕ) (rounds : List Round) (driver order : ℕ) : Type 0 where
  pub free : IsFreeAt tree number driver order
  pub uneven : ((d o : ℕ) → d < length week.drivers → o < length week.orders → IsFreeAt tree number d o → ViolatesCover rounds o → ⊥) ⊎ ViolatesCover rounds order
  pub least : (d o : ℕ) → d < length week.drivers → o < length week.orders → IsFreeAt tree number d o → (ViolatesCover rounds order → ViolatesCover rounds o) →
      (order < o) ⊎ ((order ≡ o) × (driver ≤ d))
