-- The leaves of a tree at the end: closed where their bounds have reached the cost.
use Rattle.std.proofs.Common.{◌≡◌, ◌⊎◌, inl, inr, ℕ, pred, ◌<◌, ◌≤◌, leb, Bool, true, false, List, map, refl, ap, sym, subst, ◌∙◌, arith}
use Rattle.std.proofs.lemmas.Bool.Decides.{nat_tests}
use Rattle.duty_plan.specs.declared.nodes.Node.{Node}
use Rattle.duty_plan.specs.declared.nodes.NodeState.TheVariants.{Branched, Closed, Empty}
use Rattle.duty_plan.specs.Nodes.{IsNode}
use Rattle.duty_plan.proofs.Lists.{slice_get-lt}
use Rattle.price_master.proofs.Carried.{get-below}
use Rattle.price_master.proofs.Lookups.{get-map, length-map_lem}
use Rattle.branch_tree.specs.Growth.{settled, is_unsettled}
use Rattle.branch_tree.proofs.Sameness.{IsLike, Extends, one-node}

-- a node at the end
pub record IsSettled (cost : ℕ) (node end : Node) : Type 0 where
  pub like : IsLike node end
  pub seen : end.seen ≡ node.seen
  pub state : (end.state ≡ node.state) ⊎ ((is_unsettled node.state ≡ true) × (cost ≤ node.bound) × (end.state ≡ Closed))
  pub below : is_unsettled end.state ≡ true → node.bound < cost

pub is_settled : (cost : ℕ) (node : Node) → IsSettled cost node (settled cost node)
is_settled cost node = by_test (is_unsettled node.state) refl (leb cost node.bound) refl
  where
    by_test : (u : Bool) → is_unsettled node.state ≡ u → (c : Bool) → leb cost node.bound ≡ c → IsSettled cost node (settled cost node)
    by_test true e true f =
        let reached : cost ≤ node.bound = grind (arith, nat_tests) in
        rw (e, f) (record {
          like = record { parent = refl; decision = refl; prices = refl; bound = refl };
          seen = refl;
          state = inr (e, reached, refl);
          below = λ h. cc;
        })
    by_test true e false f =
        let low : node.bound < cost = grind (arith, nat_tests) in
        rw (e, f) (record {
          like = record { parent = refl; decision = refl; prices = refl; bound = refl };
          seen = refl;
          state = inl refl;
          below = λ h. low;
        })
    by_test false e c f =
        rw e (record {
          like = record { parent = refl; decision = refl; prices = refl; bound = refl };
          seen = refl;
          state = inl refl;
          below = λ h. cc;
        })

pub settled-extends : (cost : ℕ) (tree : List Node) → Extends tree (map (settled cost) tree)
settled-extends cost tree k node is = (settled cost node, (is.0, get-map (settled cost) tree (pred k) node is.1), (is_settled cost node).like)

-- a node of the settled tree was one of the tree
pub settled-back : (cost : ℕ) (tree : List Node) (k : ℕ) (end : Node) → IsNode (map (settled cost) tree) k end →
    (node : Node) × IsNode tree k node × IsSettled cost node end
settled-back cost tree k end is =
    let found = get-below tree (pred k) (omega (arith, slice_get-lt (map (settled cost) tree) (pred k) end is.1, length-map_lem (settled cost) tree)) in
    let at : IsNode (map (settled cost) tree) k (settled cost found.0) = (is.0, get-map (settled cost) tree (pred k) found.0 found.1) in
    (found.0, (is.0, found.1), subst (λ (x : Node). IsSettled cost found.0 x) (one-node (map (settled cost) tree) k (settled cost found.0) end at is) (is_settled cost found.0))

-- only an Open or Spent leaf becomes another state, and only Closed
pub was-branched : (cost : ℕ) (node end : Node) → IsSettled cost node end → end.state ≡ Branched → node.state ≡ Branched
was-branched cost node end s e = by_state s.state
  where
    by_state : (end.state ≡ node.state) ⊎ ((is_unsettled node.state ≡ true) × (cost ≤ node.bound) × (end.state ≡ Closed)) → node.state ≡ Branched
    by_state (inl h) = sym h ∙ e
    by_state (inr h) = let closed = h.2 in cc

pub stays-branched : (cost : ℕ) (node end : Node) → IsSettled cost node end → node.state ≡ Branched → end.state ≡ Branched
stays-branched cost node end s e = by_state s.state
  where
    by_state : (end.state ≡ node.state) ⊎ ((is_unsettled node.state ≡ true) × (cost ≤ node.bound) × (end.state ≡ Closed)) → end.state ≡ Branched
    by_state (inl h) = h ∙ e
    by_state (inr h) = let no : is_unsettled node.state ≡ false = ap is_unsettled e in let yes = h.0 in cc

pub stays-empty : (cost : ℕ) (node end : Node) → IsSettled cost node end → node.state ≡ Empty → end.state ≡ Empty
stays-empty cost node end s e = by_state s.state
  where
    by_state : (end.state ≡ node.state) ⊎ ((is_unsettled node.state ≡ true) × (cost ≤ node.bound) × (end.state ≡ Closed)) → end.state ≡ Empty
    by_state (inl h) = h ∙ e
    by_state (inr h) = let no : is_unsettled node.state ≡ false = ap is_unsettled e in let yes = h.0 in cc
