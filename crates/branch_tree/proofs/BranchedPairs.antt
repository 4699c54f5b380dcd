-- A branching keeps each at the pair of its run.
use Rattle.std.proofs.Common.{◌≡◌, ◌⊎◌, inl, inr, ℕ, pred, ◌<◌, ◌≤◌, List, [], ◌∷◌, ◌++◌, length, ap, sym, subst, ◌∙◌, arith, Some, slice_get}
use Rattle.duty_plan.specs.declared.plans.Case.{Case}
use Rattle.duty_plan.specs.declared.outcomes.Limits.{Limits}
use Rattle.duty_plan.specs.declared.nodes.Decision.TheVariants.{Forced as forces, Barred as bars}
use Rattle.duty_plan.specs.declared.nodes.Node.{Node}
use Rattle.duty_plan.specs.Rounds.{Round}
use Rattle.duty_plan.specs.Nodes.{path_of, IsNode}
use Rattle.duty_plan.specs.Branching.{IsBranchingPair}
use Rattle.duty_plan.specs.Trees.{HasBranchingPairs}
use Rattle.price_master.proofs.Lookups.{get-before, at-most}
use Rattle.branch_tree.specs.Growth.{IsGrowing, IsRanNode, IsChosen}
use Rattle.branch_tree.proofs.Parents.{root-or-later}
use Rattle.branch_tree.proofs.Sameness.{Extends, node-below, like-back, tree-earlier, path-like, pick-like}
use Rattle.branch_tree.proofs.Turning.{AreTurned, OneOfFour, turned-cases, turned-fresh, turned-extends}

pub pairs-grow : (case : Case) (limits : Limits) (cost less : ℕ) (tree : List Node) (runs : List (List Round)) (number : ℕ) (node : Node)
    (driver order : ℕ) (forcing barring : Node) (first second : List Round) (new : List Node) → IsGrowing case limits cost tree runs → less ≤ cost →
    IsChosen case limits cost tree runs number node driver order → forcing.parent ≡ number → barring.parent ≡ number →
    forcing.decision ≡ forces driver order → barring.decision ≡ bars driver order →
    IsRanNode case limits less (forces driver order ∷ path_of tree number) node.bound node.prices forcing first →
    IsRanNode case limits less (bars driver order ∷ path_of tree number) node.bound node.prices barring second →
    AreTurned tree new number cost node forcing barring →
    HasBranchingPairs case.week new (runs ++ first ∷ second ∷ [])
pairs-grow case limits cost less tree runs number node driver order forcing barring first second new g low chosen pf pb df db rf rb t = picks
  where
    ext : Extends tree new
    ext = turned-extends tree new number cost node forcing barring t

    cases : (k : ℕ) (x : Node) → IsNode new k x → OneOfFour tree number cost node forcing barring k x
    cases k x is = turned-cases tree new number cost node forcing barring t k x is

    below : number ≤ length tree
    below = node-below tree number node t.here

    some : 1 ≤ number
    some = t.here.0

    path : (k : ℕ) → k ≤ length tree → path_of new k ≡ path_of tree k
    path k l = path-like case.week tree new g.shape ext k l

    fresh : (k : ℕ) (x : Node) → length tree < k → IsNode new k x → x.parent ≡ number
    fresh k x l is = turned-fresh tree new number cost node forcing barring t pf pb k x l is

    -- a run of the older tree
    older_run : (k : ℕ) (run : List Round) → k ≤ length tree → slice_get (runs ++ first ∷ second ∷ []) (pred k) ≡ Some run → 1 ≤ k →
        slice_get runs (pred k) ≡ Some run
    older_run k run l h one = sym (get-before runs (first ∷ second ∷ []) (pred k) (omega (arith, g.all_runs))) ∙ h

    picks : (k child d o : ℕ) (run : List Round) (forced : Node) → slice_get (runs ++ first ∷ second ∷ []) (pred k) ≡ Some run → IsNode new child forced →
        forced.parent ≡ k → forced.decision ≡ forces d o → IsBranchingPair case.week new k run d o
    picks k child d o run forced h at p e = by_case (cases child forced at) (at-most child (length tree))
      where
        older : child ≤ length tree → IsBranchingPair case.week new k run d o
        older l =
            let back = like-back tree new ext child forced at l in
            let early : back.0.parent < child = tree-earlier case.week tree g.shape child back.0 back.1 in
            let is_k : back.0.parent ≡ k = sym back.2.parent ∙ p in
            by_root (root-or-later child at.0) back.0 back.1 is_k (sym back.2.decision ∙ e) early
          where
            by_root : (child ≡ 1) ⊎ (1 < child) → (y : Node) → IsNode tree child y → y.parent ≡ k → y.decision ≡ forces d o → y.parent < child → IsBranchingPair case.week new k run d o
            by_root (inl one) y is is_k is_d early =
                let root = g.shape.root y (subst (λ (m : ℕ). IsNode tree m y) one is) in cc
            by_root (inr s) y is is_k is_d early =
                let range = g.shape.others child y s is in
                let lk : k ≤ length tree = omega (arith, range.1) in
                pick-like case.week tree new k run d o (path k lk)
                (g.branching.picks k child d o run y (older_run k run lk h (omega (arith, range.0))) is is_k is_d)

        by_case : OneOfFour tree number cost node forcing barring child forced → (child ≤ length tree) ⊎ (length tree < child) → IsBranchingPair case.week new k run d o
        by_case z (inl l) = older l
        by_case (inl z) (inr l) = absurd (omega (arith, node-below tree child forced z.1))
        by_case (inr (inl z)) (inr l) = absurd (omega (arith, z.0, below))
        by_case (inr (inr (inr z))) (inr l) = let decisions = ap (λ (y : Node). y.decision) z.1 in cc
        by_case (inr (inr (inl z))) (inr l) =
            let is_k : k ≡ number = sym p ∙ fresh child forced l at in
            let lk : k ≤ length tree = omega (arith, below) in
            let there : slice_get runs (pred number) ≡ Some run = ap (λ (m : ℕ). slice_get runs (pred m)) (sym is_k) ∙ older_run k run lk h (omega (arith, some)) in
            let decisions = ap (λ (y : Node). y.decision) z.1 in
            let is_d : driver ≡ d = cc in
            let is_o : order ≡ o = cc in
            let pick : IsBranchingPair case.week tree number run d o = subst (λ (m : ℕ). IsBranchingPair case.week tree number run d m) is_o
            (subst (λ (m : ℕ). IsBranchingPair case.week tree number run m order) is_d (chosen.pick run there)) in
            subst (λ (m : ℕ). IsBranchingPair case.week new m run d o) (sym is_k)
            (pick-like case.week tree new number run d o (path number below) pick)
