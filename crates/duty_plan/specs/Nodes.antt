-- The nodes of a tree and their paths. Nodes are numbered from 1, in the order of the list; the root has parent 0.
use Rattle.std.specs.Prelude.{◌≡◌, ◌⊎◌, ℕ, pred, ◌+◌, ◌<◌, ◌≤◌, ◌==◌, if◌then◌else◌, List, [], ◌∷◌, length, reverse, Some, slice_get}
use Rattle.week_book.specs.declared.weeks.Week.{Week}
use Rattle.duty_plan.specs.declared.nodes.Decision.{Decision}
use Rattle.duty_plan.specs.declared.nodes.Decision.TheVariants.{Root, Forced as forces, Barred as bars}
use Rattle.duty_plan.specs.declared.nodes.Node.{Node}
use Rattle.duty_plan.specs.declared.nodes.NodeState.TheVariants.{Branched}
use Rattle.duty_plan.specs.declared.deciding.Pair.TheVariants.{Free}
use Rattle.duty_plan.specs.Values.{decided_by}

-- the decisions from a node up to the root, where the tree's nodes are given newest first
abbrev pub path_in : List Node → ℕ → List Decision
path_in [] number = []
path_in (node ∷ older) number =
    if number == length older + 1 then node.decision ∷ path_in older node.parent else path_in older number

-- the path of a node: the decisions from it up to the root
abbrev pub path_of : List Node → ℕ → List Decision
path_of tree number = path_in (reverse tree) number

-- the node of that number
abbrev pub IsNode : List Node → ℕ → Node → Type 0
IsNode tree number node = (1 ≤ number) × (slice_get tree (pred number) ≡ Some node)

-- the driver and the order are Free at the node
abbrev pub IsFreeAt : List Node → ℕ → ℕ → ℕ → Type 0
IsFreeAt tree number driver order = decided_by (path_of tree number) driver order ≡ Free

-- some driver and order are Free at the node: it isn't decided
abbrev pub HasFree : Week → List Node → ℕ → Type 0
HasFree week tree number = (driver : ℕ) × (order : ℕ) × (driver < length week.drivers) × (order < length week.orders) ×
    IsFreeAt tree number driver order

-- the two children of a node: they have neighbouring numbers, and force and bar one driver and order that are Free at
-- the node, the forcing one first
pub record HasChildren (week : Week) (tree : List Node) (number : ℕ) : Type 0 where
  pub child : ℕ
  pub driver : ℕ
  pub order : ℕ
  pub forcing : Node
  pub barring : Node
  pub is_forcing : IsNode tree child forcing
  pub is_barring : IsNode tree (child + 1) barring
  pub parents : (forcing.parent ≡ number) × (barring.parent ≡ number)
  pub forces_it : forcing.decision ≡ forces driver order
  pub bars_it : barring.decision ≡ bars driver order
  pub in_week : (driver < length week.drivers) × (order < length week.orders)
  pub free : IsFreeAt tree number driver order
  pub only : (k : ℕ) (node : Node) → IsNode tree k node → node.parent ≡ number → (k ≡ child) ⊎ (k ≡ child + 1)

-- a tree: node 1 alone is the root, each other node is a child of a branched one with a smaller number, and each
-- branched node has its two children
pub record IsTree (week : Week) (tree : List Node) : Type 0 where
  pub some : 0 < length tree
  pub root : (node : Node) → IsNode tree 1 node → (node.parent ≡ 0) × (node.decision ≡ Root)
  pub others : (k : ℕ) (node : Node) → 1 < k → IsNode tree k node → (1 ≤ node.parent) × (node.parent < k)
  pub parents : (k : ℕ) (node parent : Node) → IsNode tree k node → IsNode tree node.parent parent → parent.state ≡ Branched
  pub branched : (k : ℕ) (node : Node) → IsNode tree k node → node.state ≡ Branched → HasChildren week tree k
