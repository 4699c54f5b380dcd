-- Which node and which pair come first.
use Rattle.std.proofs.Common.{◌≡◌, ◌⊎◌, ℕ, suc, ◌<◌, ◌≤◌, List, Option, Some, None, slice_get}
use Rattle.duty_plan.specs.declared.nodes.Node.{Node}
use Rattle.duty_plan.specs.declared.nodes.NodeState.TheVariants.{Open}

-- of the first n nodes, the open leaf of the least bound below the cost, the first of that bound
pub record IsBest (cost : ℕ) (tree : List Node) (n least number : ℕ) : Type 0 where
  pub node : Node
  pub place : ℕ
  pub is_number : number ≡ suc place
  pub early : place < n
  pub there : slice_get tree place ≡ Some node
  pub open_leaf : node.state ≡ Open
  pub bound : node.bound ≡ least
  pub below : least < cost
  pub first : (k : ℕ) (other : Node) → k < n → slice_get tree k ≡ Some other → other.state ≡ Open → (least < other.bound) ⊎ ((least ≡ other.bound) × (place ≤ k))

abbrev pub IsBestSoFar : ℕ → List Node → ℕ → ℕ → Option ℕ → Type 0
IsBestSoFar cost tree n least None =
    (least ≡ cost) × ((k : ℕ) (other : Node) → k < n → slice_get tree k ≡ Some other → other.state ≡ Open → cost ≤ other.bound)
IsBestSoFar cost tree n least (Some number) = IsBest cost tree n least number
