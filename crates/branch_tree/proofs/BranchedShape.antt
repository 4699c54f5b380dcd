-- A branching leaves a tree.
use Rattle.std.proofs.Common.{◌≡◌, ◌⊎◌, inl, inr, ℕ, pred, ◌+◌, ◌<◌, ◌≤◌, List, ◌∷◌, length, ap, sym, subst, ◌∙◌, arith}
use Rattle.duty_plan.specs.declared.plans.Case.{Case}
use Rattle.duty_plan.specs.declared.outcomes.Limits.{Limits}
use Rattle.duty_plan.specs.declared.nodes.Decision.{Decision}
use Rattle.duty_plan.specs.declared.nodes.Decision.TheVariants.{Forced as forces, Barred as bars}
use Rattle.duty_plan.specs.declared.nodes.Node.{Node}
use Rattle.duty_plan.specs.declared.nodes.NodeState.TheVariants.{Branched}
use Rattle.duty_plan.specs.Values.{decided_by}
use Rattle.duty_plan.specs.Rounds.{Round}
use Rattle.duty_plan.specs.Nodes.{path_of, IsNode, IsTree, HasChildren, IsFreeAt}
use Rattle.price_master.proofs.Carried.{get-below}
use Rattle.price_master.proofs.Lookups.{at-most}
use Rattle.branch_tree.specs.Growth.{IsGrowing, IsRanNode, IsChosen, turned}
use Rattle.branch_tree.proofs.Sameness.{Extends, one-node, node-below, like-back, tree-earlier, path-like, children-like}
use Rattle.branch_tree.proofs.Turning.{AreTurned, OneOfFour, turned-cases, turned-fresh, turned-extends, HasOldParent, old-parent}

pub shape-grows : (case : Case) (limits : Limits) (cost less : ℕ) (tree : List Node) (runs : List (List Round)) (number : ℕ) (node : Node)
    (driver order : ℕ) (forcing barring : Node) (first second : List Round) (new : List Node) → IsGrowing case limits cost tree runs → less ≤ cost →
    IsChosen case limits cost tree runs number node driver order → forcing.parent ≡ number → barring.parent ≡ number →
    forcing.decision ≡ forces driver order → barring.decision ≡ bars driver order →
    IsRanNode case limits less (forces driver order ∷ path_of tree number) node.bound node.prices forcing first →
    IsRanNode case limits less (bars driver order ∷ path_of tree number) node.bound node.prices barring second →
    AreTurned tree new number cost node forcing barring →
    IsTree case.week new
shape-grows case limits cost less tree runs number node driver order forcing barring first second new g low chosen pf pb df db rf rb t = shape
  where
    ext : Extends tree new
    ext = turned-extends tree new number cost node forcing barring t

    cases : (k : ℕ) (x : Node) → IsNode new k x → OneOfFour tree number cost node forcing barring k x
    cases k x is = turned-cases tree new number cost node forcing barring t k x is

    below : number ≤ length tree
    below = node-below tree number node t.here

    some : 1 ≤ number
    some = t.here.0

    path : (k : ℕ) → k ≤ length tree → path_of new k ≡ path_of tree k
    path k l = path-like case.week tree new g.shape ext k l

    parent_at : (k : ℕ) (x parent : Node) → k ≤ length tree → IsNode new k x → IsNode new x.parent parent → HasOldParent tree k x parent
    parent_at k x parent l is at = old-parent case.week tree new number cost node forcing barring g.shape t chosen.open_leaf k x parent l is at

    fresh : (k : ℕ) (x : Node) → length tree < k → IsNode new k x → x.parent ≡ number
    fresh k x l is = turned-fresh tree new number cost node forcing barring t pf pb k x l is

    is_number : (k : ℕ) (x : Node) → k ≡ number → IsNode new k x → turned cost node ≡ x
    is_number k x e is = one-node new number (turned cost node) x t.is_turned (subst (λ (m : ℕ). IsNode new m x) e is)

    shape : IsTree case.week new
    shape = record {
      some = omega (arith, t.size);
      root = λ x is. let back = like-back tree new ext 1 x is (omega arith) in
          let root = g.shape.root back.0 back.1 in (back.2.parent ∙ root.0, back.2.decision ∙ root.1);
      others = λ k x s is. others k x s is (at-most k (length tree));
      parents = λ k x parent is at. parents k x parent is at (at-most k (length tree));
      branched = λ k x is e. branched k x is e (cases k x is);
    }
      where
        others : (k : ℕ) (x : Node) → 1 < k → IsNode new k x → (k ≤ length tree) ⊎ (length tree < k) → (1 ≤ x.parent) × (x.parent < k)
        others k x s is (inl l) =
            let back = like-back tree new ext k x is l in
            let range = g.shape.others k back.0 s back.1 in (omega (arith, back.2.parent), omega (arith, back.2.parent))
        others k x s is (inr l) = let p = fresh k x l is in (omega (arith, some), omega (arith, below))

        parents : (k : ℕ) (x parent : Node) → IsNode new k x → IsNode new x.parent parent → (k ≤ length tree) ⊎ (length tree < k) → parent.state ≡ Branched
        parents k x parent is at (inl l) = (parent_at k x parent l is at).branched
        parents k x parent is at (inr l) = sym (ap (λ (y : Node). y.state) (is_number x.parent parent (fresh k x l is) at))

        branched : (k : ℕ) (x : Node) → IsNode new k x → x.state ≡ Branched → OneOfFour tree number cost node forcing barring k x → HasChildren case.week new k
        branched k x is e (inl c) =
            children-like case.week tree new k ext (node-below tree k x c.1) (path k (node-below tree k x c.1))
            (λ j y l there same. c.0 (sym same ∙ fresh j y l there)) (g.shape.branched k x c.1 e)
        branched k x is e (inr (inl c)) = record {
          child = length tree + 1;
          driver = driver;
          order = order;
          forcing = forcing;
          barring = barring;
          is_forcing = t.is_forcing;
          is_barring = t.is_barring;
          parents = (pf ∙ sym c.0, pb ∙ sym c.0);
          forces_it = df;
          bars_it = db;
          in_week = chosen.in_week;
          free = free;
          only = λ j y there p. only j y there (p ∙ c.0) (cases j y there);
        }
          where
            free : IsFreeAt new k driver order
            free =
                let run = get-below runs (pred number) (omega (arith, g.all_runs, below, some)) in
                let same : path_of new k ≡ path_of tree number = ap (λ (m : ℕ). path_of new m) c.0 ∙ path number below in
                ap (λ (ds : List Decision). decided_by ds driver order) same ∙ (chosen.pick run.0 run.1).free

            only : (j : ℕ) (y : Node) → IsNode new j y → y.parent ≡ number → OneOfFour tree number cost node forcing barring j y →
                (j ≡ length tree + 1) ⊎ (j ≡ length tree + 1 + 1)
            only j y there p (inl d) =
                let at : IsNode tree y.parent node = subst (λ (m : ℕ). IsNode tree m node) (sym p) t.here in
                let state = g.shape.parents j y node d.1 at in let opened = chosen.open_leaf in cc
            only j y there p (inr (inl d)) =
                let early = tree-earlier case.week tree g.shape number node t.here in
                let same = ap (λ (z : Node). z.parent) d.1 in absurd (omega arith)
            only j y there p (inr (inr (inl d))) = inl d.0
            only j y there p (inr (inr (inr d))) = inr d.0
        branched k x is e (inr (inr (inl c))) = absurd (rf.leaf (ap (λ (y : Node). y.state) c.1 ∙ e))
        branched k x is e (inr (inr (inr c))) = absurd (rb.leaf (ap (λ (y : Node). y.state) c.1 ∙ e))
