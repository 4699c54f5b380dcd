-- The weights of a tree at the end: where a leaf has a Free pair, two more nodes fit.
use Rattle.std.proofs.Common.{◌≡◌, ◌≢◌, ◌⊎◌, inl, inr, ℕ, zero, suc, pred, ◌+◌, ◌*◌, ◌^◌, ◌≤◌, true, List, [], ◌∷◌, length, map, ap, sym, ◌∙◌, arith, Some, slice_get}
use Rattle.std.specs.List.{sum_by}
use Rattle.std.proofs.Math.Nat.{pow-suc}
use Rattle.std.proofs.Math.Pow.{pow_mono}
use Rattle.std.proofs.lemmas.List.Sums.{sum_by-cons, sum_by-le-sum_by}
use Rattle.week_book.specs.declared.weeks.Week.{Week}
use Rattle.duty_plan.specs.declared.nodes.Decision.{Decision}
use Rattle.duty_plan.specs.declared.nodes.Node.{Node}
use Rattle.duty_plan.specs.declared.nodes.NodeState.TheVariants.{Branched, Closed}
use Rattle.duty_plan.specs.Nodes.{HasFree, IsNode, IsTree, path_of}
use Rattle.duty_plan.proofs.Lists.{slice_get-lt}
use Rattle.price_master.proofs.Carried.{get-below}
use Rattle.price_master.proofs.Lookups.{length-map_lem}
use Rattle.branch_tree.specs.Growth.{is_unsettled, settled}
use Rattle.branch_tree.specs.Reaching.{AreWeights, free_pairs, leaf_count}
use Rattle.branch_tree.proofs.FreePairs.{free-some}
use Rattle.branch_tree.proofs.Sameness.{node-below, path-like}
use Rattle.branch_tree.proofs.Settling.{settled-back, settled-extends}
use Rattle.branch_tree.proofs.Weighing.{leaf-le, leaf-one}

pub settled-weighs : (week : Week) (cost : ℕ) (tree : List Node) (weights : List ℕ) → IsTree week tree → AreWeights week tree weights →
    AreWeights week (map (settled cost) tree) weights
settled-weighs week cost tree weights t a = record {
  as_many = omega (arith, a.as_many, length-map_lem (settled cost) tree);
  sum = a.sum;
  leaves = omega (arith, a.leaves, length-map_lem (settled cost) tree);
  each = λ k end w is live h.
      let back = settled-back cost tree k end is in
      let low : 2 ^ free_pairs week (path_of tree k) ≤ w = a.each k back.0 w back.1 (λ e. live (kept back.0 end back.2.state e)) h in
      let path : 2 ^ free_pairs week (path_of (map (settled cost) tree) k) ≡ 2 ^ free_pairs week (path_of tree k) =
      ap (λ (ds : List Decision). 2 ^ free_pairs week ds) (path-like week tree (map (settled cost) tree) t (settled-extends cost tree) k (node-below tree k back.0 back.1)) in
      omega arith;
}
  where
    kept : (node end : Node) → (end.state ≡ node.state) ⊎ ((is_unsettled node.state ≡ true) × (cost ≤ node.bound) × (end.state ≡ Closed)) → node.state ≡ Branched →
        end.state ≡ Branched
    kept node end (inl e) b = e ∙ b
    kept node end (inr g) b = let bad : is_unsettled Branched ≡ true = ap is_unsettled (sym b) ∙ g.0 in cc

leaves-few : (weights : List ℕ) → sum_by leaf_count weights ≤ sum_by (λ w. w) weights
leaves-few weights = sum_by-le-sum_by leaf_count (λ (w : ℕ). w) weights leaf-le

leaves-fewer : (weights : List ℕ) (n w : ℕ) → slice_get weights n ≡ Some w → 2 ≤ w → sum_by leaf_count weights + 1 ≤ sum_by (λ v. v) weights
leaves-fewer [] n w h l = cc
leaves-fewer (x ∷ xs) zero w h l =
    let same : x ≡ w = cc in
    omega (arith, same, leaf-one x, leaves-few xs, sum_by-cons leaf_count x xs, sum_by-cons (λ (v : ℕ). v) x xs)
leaves-fewer (x ∷ xs) (suc n) w h l =
    omega (arith, leaf-le x, leaves-fewer xs n w h l, sum_by-cons leaf_count x xs, sum_by-cons (λ (v : ℕ). v) x xs)

-- where a leaf has a Free pair, two more nodes fit
pub two-fit : (week : Week) (tree : List Node) (weights : List ℕ) (k : ℕ) (node : Node) → AreWeights week tree weights → IsNode tree k node → node.state ≢ Branched →
    HasFree week tree k → length tree + 3 ≤ 2 ^ (length week.drivers * length week.orders + 1)
two-fit week tree weights k node a is live free =
    let found = get-below weights (pred k) (omega (arith, a.as_many, slice_get-lt tree (pred k) node is.1)) in
    let low : 2 ^ free_pairs week (path_of tree k) ≤ found.0 = a.each k node found.0 is live found.1 in
    let some = free-some week (path_of tree k) free.0 free.1 free.2 free.3 free.4 in
    let two : 2 ^ 1 ≤ 2 ^ free_pairs week (path_of tree k) = pow_mono some in
    let fewer = leaves-fewer weights (pred k) found.0 found.1 (omega arith) in
    let next : length week.drivers * length week.orders + 1 ≡ suc (length week.drivers * length week.orders) = omega arith in
    let doubled : 2 ^ (length week.drivers * length week.orders + 1) ≡ 2 ^ (length week.drivers * length week.orders) * 2 =
    ap (λ (n : ℕ). 2 ^ n) next ∙ pow-suc 2 (length week.drivers * length week.orders) in
    omega (arith, fewer, doubled, a.sum, a.leaves)
