-- A branching keeps the best node first.
use Rattle.std.proofs.Common.{◌≡◌, ◌≢◌, ◌⊎◌, inl, inr, ℕ, pred, ◌+◌, ◌<◌, ◌≤◌, List, ◌∷◌, length, refl, ap, sym, subst, ◌∙◌, arith}
use Rattle.duty_plan.specs.declared.plans.Case.{Case}
use Rattle.duty_plan.specs.declared.outcomes.Limits.{Limits}
use Rattle.duty_plan.specs.declared.nodes.Decision.{Decision}
use Rattle.duty_plan.specs.declared.nodes.Decision.TheVariants.{Forced as forces, Barred as bars}
use Rattle.duty_plan.specs.declared.nodes.Node.{Node}
use Rattle.duty_plan.specs.declared.nodes.NodeState.{NodeState}
use Rattle.duty_plan.specs.declared.nodes.NodeState.TheVariants.{Branched, Closed, Empty, Open, Spent}
use Rattle.duty_plan.specs.Values.{decided_by}
use Rattle.duty_plan.specs.Rounds.{Round}
use Rattle.duty_plan.specs.Nodes.{path_of, IsNode}
use Rattle.duty_plan.specs.Branching.{IsBestFirst, IsCandidate}
use Rattle.price_master.proofs.Carried.{get-below}
use Rattle.price_master.proofs.Lookups.{at-most}
use Rattle.branch_tree.specs.Growth.{IsGrowing, IsRanNode, IsChosen, turned}
use Rattle.branch_tree.proofs.Sameness.{IsLike, Extends, one-node, node-below, like-back, path-like}
use Rattle.branch_tree.proofs.Turning.{AreTurned, OneOfFour, turned-cases, turned-fresh, turned-extends, HasOldParent, old-parent}

pub best-grows : (case : Case) (limits : Limits) (cost less : ℕ) (tree : List Node) (runs : List (List Round)) (number : ℕ) (node : Node)
    (driver order : ℕ) (forcing barring : Node) (first second : List Round) (new : List Node) → IsGrowing case limits cost tree runs → less ≤ cost →
    IsChosen case limits cost tree runs number node driver order → forcing.parent ≡ number → barring.parent ≡ number →
    forcing.decision ≡ forces driver order → barring.decision ≡ bars driver order →
    IsRanNode case limits less (forces driver order ∷ path_of tree number) node.bound node.prices forcing first →
    IsRanNode case limits less (bars driver order ∷ path_of tree number) node.bound node.prices barring second →
    AreTurned tree new number cost node forcing barring →
    IsBestFirst case.week new
best-grows case limits cost less tree runs number node driver order forcing barring first second new g low chosen pf pb df db rf rb t = best_first
  where
    ext : Extends tree new
    ext = turned-extends tree new number cost node forcing barring t

    cases : (k : ℕ) (x : Node) → IsNode new k x → OneOfFour tree number cost node forcing barring k x
    cases k x is = turned-cases tree new number cost node forcing barring t k x is

    below : number ≤ length tree
    below = node-below tree number node t.here

    path : (k : ℕ) → k ≤ length tree → path_of new k ≡ path_of tree k
    path k l = path-like case.week tree new g.shape ext k l

    parent_at : (k : ℕ) (x parent : Node) → k ≤ length tree → IsNode new k x → IsNode new x.parent parent → HasOldParent tree k x parent
    parent_at k x parent l is at = old-parent case.week tree new number cost node forcing barring g.shape t chosen.open_leaf k x parent l is at

    fresh : (k : ℕ) (x : Node) → length tree < k → IsNode new k x → x.parent ≡ number
    fresh k x l is = turned-fresh tree new number cost node forcing barring t pf pb k x l is

    is_number : (k : ℕ) (x : Node) → k ≡ number → IsNode new k x → turned cost node ≡ x
    is_number k x e is = one-node new number (turned cost node) x t.is_turned (subst (λ (m : ℕ). IsNode new m x) e is)

    -- a candidate of the newer tree, before its children, is one of the older tree
    older_candidate : (child saw j : ℕ) (other old : Node) → child ≤ length tree + 1 → IsNode tree j old → IsLike old other →
        (old.state ≢ Empty) → IsCandidate case.week new child saw j other → IsCandidate case.week tree child saw j old
    older_candidate child saw j other old l is like full c = record {
      is_node = is;
      earlier = c.earlier;
      unbranched = λ k x at s p. let next = ext k x at in c.unbranched k next.0 next.1 s (next.2.parent ∙ p);
      not_empty = full;
      free = let f = c.free in (f.0, f.1, f.2, f.3, ap (λ (ds : List Decision). decided_by ds f.0 f.1) (sym (path j (node-below tree j old is))) ∙ f.4);
      below = omega (arith, c.below, like.bound);
    }

    -- what is not Empty was not Empty
    not_empty : (j : ℕ) (other old : Node) → IsNode tree j old → IsNode new j other → other.state ≢ Empty → old.state ≢ Empty
    not_empty j other old is at n e = by_case (cases j other at)
      where
        by_case : OneOfFour tree number cost node forcing barring j other → ⊥
        by_case (inl c) = let same = one-node tree j old other is c.1 in n (sym (ap (λ (y : Node). y.state) same) ∙ e)
        by_case (inr (inl c)) =
            let same = one-node tree number node old t.here (subst (λ (m : ℕ). IsNode tree m old) c.0 is) in
            let states = ap (λ (y : Node). y.state) same in let opened = chosen.open_leaf in cc
        by_case (inr (inr (inl c))) = absurd (omega (arith, c.0, node-below tree j old is))
        by_case (inr (inr (inr c))) = absurd (omega (arith, c.0, node-below tree j old is))

    best_first : IsBestFirst case.week new
    best_first k child x forced other j is at p d o e c = by_size (at-most child (length tree))
      where
        by_size : (child ≤ length tree) ⊎ (length tree < child) → (x.bound < other.bound) ⊎ ((x.bound ≡ other.bound) × (k ≤ j))
        by_size (inl l) =
            let up = parent_at child forced x l at (subst (λ (m : ℕ). IsNode new m x) (sym p) is) in
            let back = like-back tree new ext j other c.is_node (omega (arith, c.earlier)) in
            let there : IsNode tree k x = subst (λ (m : ℕ). IsNode tree m x) (sym up.like.parent ∙ p) up.is_parent in
            let old = older_candidate child x.seen j other back.0 (omega arith) back.1 back.2 (not_empty j other back.0 back.1 c.is_node c.not_empty) c in
            turn back.0 back.2 (g.branching.best_first k child x up.node back.0 j there up.is_node (sym up.like.parent ∙ p) d o (sym up.like.decision ∙ e) old)
          where
            turn : (old : Node) → IsLike old other → (x.bound < old.bound) ⊎ ((x.bound ≡ old.bound) × (k ≤ j)) →
                (x.bound < other.bound) ⊎ ((x.bound ≡ other.bound) × (k ≤ j))
            turn old like (inl h) = inl (omega (arith, like.bound))
            turn old like (inr h) = inr (h.0 ∙ sym like.bound, h.1)
        by_size (inr l) = by_child (cases child forced at)
          where
            is_k : k ≡ number
            is_k = sym p ∙ fresh child forced l at

            same_x : turned cost node ≡ x
            same_x = is_number k x is_k is

            saw : x.seen ≡ cost
            saw = sym (ap (λ (y : Node). y.seen) same_x)

            bound_x : x.bound ≡ node.bound
            bound_x = sym (ap (λ (y : Node). y.bound) same_x)

            by_child : OneOfFour tree number cost node forcing barring child forced → (x.bound < other.bound) ⊎ ((x.bound ≡ other.bound) × (k ≤ j))
            by_child (inl z) = absurd (omega (arith, node-below tree child forced z.1))
            by_child (inr (inl z)) = absurd (omega (arith, z.0, below))
            by_child (inr (inr (inr z))) = let decisions = ap (λ (y : Node). y.decision) z.1 in cc
            by_child (inr (inr (inl z))) =
                let back = like-back tree new ext j other c.is_node (omega (arith, c.earlier, z.0)) in
                let old = older_candidate child x.seen j other back.0 (omega (arith, z.0)) back.1 back.2 (not_empty j other back.0 back.1 c.is_node c.not_empty) c in
                turn back.0 back.2 (chosen.next j back.0 back.1 (opened back.0 back.1 old back.0.state refl) (omega (arith, old.below, saw)))
              where
                turn : (y : Node) → IsLike y other → (node.bound < y.bound) ⊎ ((node.bound ≡ y.bound) × (number ≤ j)) →
                    (x.bound < other.bound) ⊎ ((x.bound ≡ other.bound) × (k ≤ j))
                turn y like (inl h) = inl (omega (arith, like.bound, bound_x))
                turn y like (inr h) = inr (omega (arith, like.bound, bound_x), omega (arith, is_k, h.1))

                -- a candidate of the older tree is an Open leaf
                opened : (y : Node) → IsNode tree j y → IsCandidate case.week tree child x.seen j y → (s : NodeState) → y.state ≡ s → y.state ≡ Open
                opened y there cand Open s = s
                opened y there cand Empty s = absurd (cand.not_empty s)
                opened y there cand Branched s =
                    let h = g.shape.branched j y there s in
                    absurd (cand.unbranched h.child h.forcing h.is_forcing (omega (arith, z.0, node-below tree h.child h.forcing h.is_forcing)) h.parents.0)
                opened y there cand Closed s =
                    let run = get-below runs (pred j) (omega (arith, g.all_runs, there.0, node-below tree j y there)) in
                    let held = (g.each j y run.0 there run.1).2 in absurd (omega (arith, (held.closed s).1, cand.below, saw))
                opened y there cand Spent s =
                    let run = get-below runs (pred j) (omega (arith, g.all_runs, there.0, node-below tree j y there)) in
                    let held = (g.each j y run.0 there run.1).2 in absurd ((held.spent s).0 cand.free)
