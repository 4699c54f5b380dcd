-- How far a tree can grow.
use Rattle.std.specs.Prelude.{◌≡◌, ◌≢◌, ℕ, zero, suc, pred, ◌+◌, ◌*◌, ◌^◌, ◌≤◌, List, length, Some, slice_get}
use Rattle.std.specs.List.{sum_by}
use Rattle.week_book.specs.declared.weeks.Week.{Week}
use Rattle.duty_plan.specs.declared.nodes.Decision.{Decision}
use Rattle.duty_plan.specs.declared.nodes.Node.{Node}
use Rattle.duty_plan.specs.declared.nodes.NodeState.TheVariants.{Branched}
use Rattle.duty_plan.specs.declared.deciding.Pair.{Pair}
use Rattle.duty_plan.specs.declared.deciding.Pair.TheVariants.{Free, Forced, Barred}
use Rattle.duty_plan.specs.Sums.{total_below}
use Rattle.duty_plan.specs.Values.{decided_by}
use Rattle.duty_plan.specs.Nodes.{IsNode, path_of}

-- a Free pair counts, and no other
abbrev pub free_count : Pair → ℕ
free_count Free = 1
free_count Forced = 0
free_count Barred = 0

-- how many drivers and orders are Free on a path
abbrev pub free_pairs : Week → List Decision → ℕ
free_pairs week path =
    total_below (λ driver. total_below (λ order. free_count (decided_by path driver order)) (length week.orders)) (length week.drivers)

-- a leaf counts: it has some weight
abbrev pub leaf_count : ℕ → ℕ
leaf_count zero = 0
leaf_count (suc n) = 1

-- weights of a tree's nodes: none of a branched one, and of a leaf at least two to the power of its Free pairs; together
-- they are at most two to the power of all drivers and orders
pub record AreWeights (week : Week) (tree : List Node) (weights : List ℕ) : Type 0 where
  pub as_many : length weights ≡ length tree
  pub sum : sum_by (λ weight. weight) weights ≤ 2 ^ (length week.drivers * length week.orders)
  pub leaves : length tree + 1 ≡ 2 * sum_by leaf_count weights
  pub each : (k : ℕ) (node : Node) (weight : ℕ) → IsNode tree k node → node.state ≢ Branched → slice_get weights (pred k) ≡ Some weight →
      2 ^ free_pairs week (path_of tree k) ≤ weight
