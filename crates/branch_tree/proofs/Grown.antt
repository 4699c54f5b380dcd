-- A grown tree, with its leaves settled, shows that the outcome is right.
use Rattle.std.proofs.Common.{◌≡◌, ◌⊎◌, inl, inr, ℕ, suc, pred, ◌+◌, ◌<◌, ◌≤◌, Bool, true, false, List, length, map, refl, ap, sym, subst, ◌∙◌, arith, Some, slice_get}
use Rattle.duty_plan.specs.declared.outcomes.State.TheVariants.{OpenLabels}
use Rattle.duty_plan.specs.declared.nodes.Decision.{Decision}
use Rattle.duty_plan.specs.declared.nodes.Decision.TheVariants.{Forced as forces}
use Rattle.duty_plan.specs.declared.nodes.Node.{Node}
use Rattle.duty_plan.specs.declared.nodes.NodeState.TheVariants.{Closed, Open, Spent}
use Rattle.duty_plan.specs.Values.{decided_by}
use Rattle.duty_plan.specs.Rounds.{Round, has_none}
use Rattle.duty_plan.specs.Nodes.{path_of, IsNode, IsTree}
use Rattle.duty_plan.specs.Branching.{IsBestFirst, HasIncumbentCosts, IsBranchingPair, IsCandidate}
use Rattle.duty_plan.specs.Trees.{HasRun, BeatsDuties, IsState, HasLeaf, EndsEmpty, EndsSpent}
use Rattle.price_master.proofs.Lookups.{length-map_lem}
use Rattle.branch_tree.specs.Growth.{IsHeld, IsGrown, settled, state_of, least_bound, has_open, is_unsettled, is_open, HasFreeOn}
use Rattle.branch_tree.specs.GrowthLaws.{GrownIsRight}
use Rattle.branch_tree.proofs.Sameness.{IsLike, Extends, node-below, tree-earlier, path-like, run-like, pick-like, children-like}
use Rattle.branch_tree.proofs.Settling.{IsSettled, settled-extends, settled-back, was-branched, stays-branched, stays-empty}
use Rattle.branch_tree.proofs.EndStates.{IsAmong, is-open, is-unsettled, unsettled-is, open-there, open-has, unsettled-there, unsettled-has, least-below, least-from, least-none, IsLeastLeaf, state-open, open-state, state-labels, labels-state, state-proved, unproved-some}

-- a Spent run doesn't end empty
spent-full : (run : List Round) → EndsSpent run → EndsEmpty run → ⊥
spent-full run s e =
    let one = s.1 in
    let two = e.1 in
    let same : s.0 ≡ e.0 = cc in
    let none = ap (λ (x : Round). has_none x.answers) same in
    let no = s.2 in
    let yes = e.2 in cc

pub grown_is_right : GrownIsRight
grown_is_right case limits plan cost tree runs kept g grown = record {
  plan = kept;
  runs = runs;
  tree = record { few = omega (arith, g.few, size); shape = shape; all_runs = g.all_runs ∙ sym size; each = each };
  branching = record { seen = seen; best_first = best_first; picks = picks };
  state = record {
    open_nodes = (λ e. open_leaf (open-there end (state-open end e)), λ leaf. open-state end (open-has end (pred leaf.0) leaf.1 leaf.2.1 leaf.3));
    full = λ e. full (open_leaf (open-there end (state-open end e))) grown;
    open_labels = (labels, λ h. labels_back h.0 h.1 (has_open end) refl);
  };
  bound = record {
    proved = λ e. least-none cost end (state-proved end e);
    least = λ n k node is u. least-below cost end (pred k) node is.1 (unsettled-is node.state u);
    attained = λ n. bound_at (unsettled-there end (unproved-some end n)) (least-from cost end);
  };
}
  where
    end : List Node
    end = map (settled cost) tree

    size : length (map (settled cost) tree) ≡ length tree
    size = length-map_lem (settled cost) tree

    ext : Extends tree (map (settled cost) tree)
    ext = settled-extends cost tree

    path : (k : ℕ) → k ≤ length tree → path_of (map (settled cost) tree) k ≡ path_of tree k
    path k l = path-like case.week tree (map (settled cost) tree) g.shape ext k l

    back : (k : ℕ) (x : Node) → IsNode (map (settled cost) tree) k x → (node : Node) × IsNode tree k node × IsSettled cost node x
    back k x is = settled-back cost tree k x is

    at_parent : (node x parent : Node) (like : IsLike node x) → IsNode (map (settled cost) tree) x.parent parent → IsNode (map (settled cost) tree) node.parent parent
    at_parent node x parent like at = subst (λ (m : ℕ). IsNode (map (settled cost) tree) m parent) like.parent at

    shape : IsTree case.week (map (settled cost) tree)
    shape = record {
      some = omega (arith, g.shape.some, size);
      root = λ x is. let b = back 1 x is in let r = g.shape.root b.0 b.1 in (b.2.like.parent ∙ r.0, b.2.like.decision ∙ r.1);
      others = λ k x s is. let b = back k x is in let r = g.shape.others k b.0 s b.1 in (omega (arith, b.2.like.parent), omega (arith, b.2.like.parent));
      parents = λ k x parent is at.
          let b = back k x is in
          let p = back b.0.parent parent (at_parent b.0 x parent b.2.like at) in
          stays-branched cost p.0 parent p.2 (g.shape.parents k b.0 p.0 b.1 p.1);
      branched = λ k x is e.
          let b = back k x is in
          let l : k ≤ length tree = node-below tree k b.0 b.1 in
          children-like case.week tree (map (settled cost) tree) k ext l (path k l)
          (λ j y there at same. absurd (omega (arith, node-below (map (settled cost) tree) j y at, size)))
          (g.shape.branched k b.0 b.1 (was-branched cost b.0 x b.2 e));
    }

    each : (k : ℕ) (x : Node) (run : List Round) → IsNode (map (settled cost) tree) k x → slice_get runs (pred k) ≡ Some run →
        HasRun case limits cost (map (settled cost) tree) k x run × BeatsDuties case cost run × IsState case.week cost (map (settled cost) tree) k x run
    each k x run is h =
        let b = back k x is in
        let e = g.each k b.0 run b.1 h in (
          run-like case limits cost tree (map (settled cost) tree) k b.0 x run g.shape ext b.1 b.2.like e.0,
          e.1,
          state b.0 b.1 b.2 e.2 b.2.state,
        )
      where
        free_to : (node : Node) → IsNode tree k node → HasFreeOn case.week (path_of tree k) → HasFreeOn case.week (path_of (map (settled cost) tree) k)
        free_to node at f = (f.0, f.1, f.2, f.3, ap (λ (ds : List Decision). decided_by ds f.0 f.1) (path k (node-below tree k node at)) ∙ f.4)

        free_from : (node : Node) → IsNode tree k node → HasFreeOn case.week (path_of (map (settled cost) tree) k) → HasFreeOn case.week (path_of tree k)
        free_from node at f = (f.0, f.1, f.2, f.3, ap (λ (ds : List Decision). decided_by ds f.0 f.1) (sym (path k (node-below tree k node at))) ∙ f.4)

        closed : (node : Node) → IsHeld case.week cost (path_of tree k) node run → (node.state ≡ Open) ⊎ (node.state ≡ Spent) → EndsEmpty run → ⊥
        closed node held (inl s) ends = (held.open_leaf s).1 ends
        closed node held (inr s) ends = spent-full run (held.spent s).1 ends

        state : (node : Node) → IsNode tree k node → IsSettled cost node x → IsHeld case.week cost (path_of tree k) node run →
            (x.state ≡ node.state) ⊎ ((is_unsettled node.state ≡ true) × (cost ≤ node.bound) × (x.state ≡ Closed)) →
            IsState case.week cost (map (settled cost) tree) k x run
        state node at s held (inl same) = record {
          branched = λ e. held.branched (sym same ∙ e);
          empty = λ e. held.empty (sym same ∙ e);
          closed = λ e. let c = held.closed (sym same ∙ e) in (c.0, omega (arith, c.1, s.like.bound));
          spent = λ e. let c = held.spent (sym same ∙ e) in
              (λ f. c.0 (free_from node at f), c.1, omega (arith, s.below (ap is_unsettled e), s.like.bound));
          open_leaf = λ e. let c = held.open_leaf (sym same ∙ e) in
              (free_to node at c.0, c.1, omega (arith, s.below (ap is_unsettled e), s.like.bound));
        }
        state node at s held (inr now) = record {
          branched = λ e. let z = now.2 in cc;
          empty = λ e. let z = now.2 in cc;
          closed = λ e. (closed node held (is-unsettled node.state now.0), omega (arith, now.1, s.like.bound));
          spent = λ e. let z = now.2 in cc;
          open_leaf = λ e. let z = now.2 in cc;
        }

    seen : HasIncumbentCosts case.week cost (map (settled cost) tree)
    seen = record {
      unbranched = λ k x is n. let b = back k x is in
          b.2.seen ∙ g.branching.seen.unbranched k b.0 b.1 (λ e. n (stays-branched cost b.0 x b.2 e));
      branched = λ k x is e. let b = back k x is in
          let r = g.branching.seen.branched k b.0 b.1 (was-branched cost b.0 x b.2 e) in
          (omega (arith, r.0, b.2.seen, b.2.like.bound), omega (arith, r.1, b.2.seen), omega (arith, r.2, b.2.seen));
      falls = λ j k one two a b l is at p q.
          let x = back j one is in
          let y = back k two at in
          let u = back x.0.parent a (at_parent x.0 one a x.2.like p) in
          let v = back y.0.parent b (at_parent y.0 two b y.2.like q) in
          omega (arith, g.branching.seen.falls j k x.0 y.0 u.0 v.0 l x.1 y.1 u.1 v.1, u.2.seen, v.2.seen);
    }

    best_first : IsBestFirst case.week (map (settled cost) tree)
    best_first k child x forced other j is at p d o e c =
        let b = back k x is in
        let f = back child forced at in
        let y = back j other c.is_node in
        turn b.0 y.0 b.2.like y.2.like (g.branching.best_first k child b.0 f.0 y.0 j b.1 f.1 (sym f.2.like.parent ∙ p) d o (sym f.2.like.decision ∙ e) (candidate b.0 y.0 b.2 y.1 y.2))
      where
        turn : (node old : Node) → IsLike node x → IsLike old other → (node.bound < old.bound) ⊎ ((node.bound ≡ old.bound) × (k ≤ j)) →
            (x.bound < other.bound) ⊎ ((x.bound ≡ other.bound) × (k ≤ j))
        turn node old a b (inl h) = inl (omega (arith, a.bound, b.bound))
        turn node old a b (inr h) = inr (a.bound ∙ (h.0 ∙ sym b.bound), h.1)

        candidate : (node old : Node) → IsSettled cost node x → IsNode tree j old → IsSettled cost old other → IsCandidate case.week tree child node.seen j old
        candidate node old a there b = record {
          is_node = there;
          earlier = c.earlier;
          unbranched = λ m y is s same. let next = ext m y is in c.unbranched m next.0 next.1 s (next.2.parent ∙ same);
          not_empty = λ s. c.not_empty (stays-empty cost old other b s);
          free = let f = c.free in (f.0, f.1, f.2, f.3, ap (λ (ds : List Decision). decided_by ds f.0 f.1) (sym (path j (node-below tree j old there))) ∙ f.4);
          below = omega (arith, c.below, a.seen, b.like.bound);
        }

    picks : (k child d o : ℕ) (run : List Round) (forced : Node) → slice_get runs (pred k) ≡ Some run → IsNode (map (settled cost) tree) child forced →
        forced.parent ≡ k → forced.decision ≡ forces d o → IsBranchingPair case.week (map (settled cost) tree) k run d o
    picks k child d o run forced h at p e =
        let b = back child forced at in
        let low : b.0.parent < child = tree-earlier case.week tree g.shape child b.0 b.1 in
        let is_k : b.0.parent ≡ k = sym b.2.like.parent ∙ p in
        pick-like case.week tree (map (settled cost) tree) k run d o (path k (omega (arith, node-below tree child b.0 b.1)))
        (g.branching.picks k child d o run b.0 h b.1 is_k (sym b.2.like.decision ∙ e))

    open_leaf : (a : IsAmong is_open (map (settled cost) tree)) → HasLeaf Open (map (settled cost) tree)
    open_leaf a = (suc a.place, a.node, (omega arith, a.there), is-open a.node.state a.passes)

    full : HasLeaf Open (map (settled cost) tree) → IsGrown limits cost tree → limits.nodes ≤ length (map (settled cost) tree) + 1
    full leaf (inr h) = omega (arith, h, size)
    full leaf (inl h) =
        let b = back leaf.0 leaf.1 leaf.2 in
        let low = b.2.below (ap is_unsettled leaf.3) in
        by_state b.0 b.1 low b.2.state
      where
        by_state : (node : Node) → IsNode tree leaf.0 node → node.bound < cost →
            (leaf.1.state ≡ node.state) ⊎ ((is_unsettled node.state ≡ true) × (cost ≤ node.bound) × (leaf.1.state ≡ Closed)) →
            limits.nodes ≤ length (map (settled cost) tree) + 1
        by_state node is low (inl same) = absurd (omega (arith, h leaf.0 node is (sym same ∙ leaf.3)))
        by_state node is low (inr now) = absurd (omega (arith, now.1))

    labels : state_of (map (settled cost) tree) ≡ OpenLabels →
        (HasLeaf Open (map (settled cost) tree) → ⊥) × HasLeaf Spent (map (settled cost) tree)
    labels e =
        let s = state-labels (map (settled cost) tree) e in
        let leaf = unsettled-there (map (settled cost) tree) s.1 in (
          λ l. let yes = open-has (map (settled cost) tree) (pred l.0) l.1 l.2.1 l.3 in let no = s.0 in cc,
          spent s.0 leaf (is-unsettled leaf.node.state leaf.passes),
        )
      where
        spent : has_open (map (settled cost) tree) ≡ false → (leaf : IsAmong is_unsettled (map (settled cost) tree)) →
            (leaf.node.state ≡ Open) ⊎ (leaf.node.state ≡ Spent) → HasLeaf Spent (map (settled cost) tree)
        spent shut leaf (inl s) = let yes = open-has (map (settled cost) tree) leaf.place leaf.node leaf.there s in absurd cc
        spent shut leaf (inr s) = (suc leaf.place, leaf.node, (omega arith, leaf.there), s)

    labels_back : (HasLeaf Open (map (settled cost) tree) → ⊥) → HasLeaf Spent (map (settled cost) tree) → (b : Bool) →
        has_open (map (settled cost) tree) ≡ b → state_of (map (settled cost) tree) ≡ OpenLabels
    labels_back none leaf true e = absurd (none (open_leaf (open-there (map (settled cost) tree) e)))
    labels_back none leaf false e =
        labels-state (map (settled cost) tree) e (unsettled-has (map (settled cost) tree) (pred leaf.0) leaf.1 leaf.2.1 (ap is_unsettled leaf.3))

    bound_at : (leaf : IsAmong is_unsettled (map (settled cost) tree)) →
        (least_bound cost (map (settled cost) tree) ≡ cost) ⊎ IsLeastLeaf cost (map (settled cost) tree) →
        (k : ℕ) × (node : Node) × IsNode (map (settled cost) tree) k node × ((node.state ≡ Open) ⊎ (node.state ≡ Spent)) ×
        (node.bound ≡ least_bound cost (map (settled cost) tree))
    bound_at leaf (inr a) = (suc a.place, a.node, (omega arith, a.there), is-unsettled a.node.state a.unsettled, a.bound)
    bound_at leaf (inl e) =
        let low = least-below cost (map (settled cost) tree) leaf.place leaf.node leaf.there leaf.passes in
        let there : IsNode (map (settled cost) tree) (suc leaf.place) leaf.node = (omega arith, leaf.there) in
        let b = back (suc leaf.place) leaf.node there in
        absurd (omega (arith, b.2.below leaf.passes, b.2.like.bound))
