-- A branching leaves each node with its run.
use Rattle.std.proofs.Common.{◌≡◌, inl, inr, ℕ, pred, ◌<◌, ◌≤◌, List, [], ◌∷◌, ◌++◌, length, refl, ap, sym, subst, ◌∙◌, arith, Some, slice_get}
use Rattle.duty_plan.specs.declared.plans.Case.{Case}
use Rattle.duty_plan.specs.declared.outcomes.Limits.{Limits}
use Rattle.duty_plan.specs.declared.nodes.Decision.{Decision}
use Rattle.duty_plan.specs.declared.nodes.Decision.TheVariants.{Forced as forces, Barred as bars}
use Rattle.duty_plan.specs.declared.nodes.Node.{Node}
use Rattle.duty_plan.specs.Rounds.{Round}
use Rattle.duty_plan.specs.Nodes.{path_of, IsNode}
use Rattle.duty_plan.specs.Trees.{HasRun, BeatsDuties}
use Rattle.price_master.proofs.Lookups.{get-before, get-after}
use Rattle.branch_tree.specs.Growth.{IsGrowing, IsHeld, IsRanNode, IsChosen, turned}
use Rattle.branch_tree.proofs.Paths.{path-node}
use Rattle.branch_tree.proofs.Sameness.{Extends, one-node, node-below, path-like, run-like}
use Rattle.branch_tree.proofs.Turning.{AreTurned, OneOfFour, turned-cases, turned-extends, alike}
use Rattle.branch_tree.proofs.Rooting.{ran-in}
use Rattle.branch_tree.proofs.Lasting.{growth_lasts}

pub runs-grow : (case : Case) (limits : Limits) (cost less : ℕ) (tree : List Node) (runs : List (List Round)) (number : ℕ) (node : Node)
    (driver order : ℕ) (forcing barring : Node) (first second : List Round) (new : List Node) → IsGrowing case limits cost tree runs → less ≤ cost →
    IsChosen case limits cost tree runs number node driver order → forcing.parent ≡ number → barring.parent ≡ number →
    forcing.decision ≡ forces driver order → barring.decision ≡ bars driver order →
    IsRanNode case limits less (forces driver order ∷ path_of tree number) node.bound node.prices forcing first →
    IsRanNode case limits less (bars driver order ∷ path_of tree number) node.bound node.prices barring second →
    AreTurned tree new number cost node forcing barring →
    (k : ℕ) (x : Node) (run : List Round) → IsNode new k x → slice_get (runs ++ first ∷ second ∷ []) (pred k) ≡ Some run →
    HasRun case limits less new k x run × BeatsDuties case less run × IsHeld case.week less (path_of new k) x run
runs-grow case limits cost less tree runs number node driver order forcing barring first second new g low chosen pf pb df db rf rb t = λ k x run is h. each k x run is h (cases k x is)
  where
    lower : IsGrowing case limits less tree runs
    lower = growth_lasts case limits cost less tree runs low g

    ext : Extends tree new
    ext = turned-extends tree new number cost node forcing barring t

    cases : (k : ℕ) (x : Node) → IsNode new k x → OneOfFour tree number cost node forcing barring k x
    cases k x is = turned-cases tree new number cost node forcing barring t k x is

    below : number ≤ length tree
    below = node-below tree number node t.here

    some : 1 ≤ number
    some = t.here.0

    path : (k : ℕ) → k ≤ length tree → path_of new k ≡ path_of tree k
    path k l = path-like case.week tree new g.shape ext k l

    is_number : (k : ℕ) (x : Node) → k ≡ number → IsNode new k x → turned cost node ≡ x
    is_number k x e is = one-node new number (turned cost node) x t.is_turned (subst (λ (m : ℕ). IsNode new m x) e is)

    Ran : ℕ → Node → List Round → Type 0
    Ran k x run = HasRun case limits less new k x run × BeatsDuties case less run × IsHeld case.week less (path_of new k) x run

    -- a run of the older tree
    older_run : (k : ℕ) (run : List Round) → k ≤ length tree → slice_get (runs ++ first ∷ second ∷ []) (pred k) ≡ Some run → 1 ≤ k →
        slice_get runs (pred k) ≡ Some run
    older_run k run l h one = sym (get-before runs (first ∷ second ∷ []) (pred k) (omega (arith, g.all_runs))) ∙ h

    -- the run of a child
    child_run : (decision : Decision) (child : Node) (k : ℕ) (run : List Round) → IsNode new k child → length tree < k → child.parent ≡ number →
        child.decision ≡ decision → IsRanNode case limits less (decision ∷ path_of tree number) node.bound node.prices child run → Ran k child run
    child_run decision child k run is l p d r =
        ran-in case limits less (decision ∷ path_of tree number) node.bound node.prices child run new k there
        (λ e. absurd (omega (arith, some))) begun r
      where
        there : path_of new k ≡ decision ∷ path_of tree number
        there =
            path-node new k child is (omega (arith, below))
            ∙ (ap (λ (x : Decision). x ∷ path_of new child.parent) d
            ∙ (ap (λ (m : ℕ). decision ∷ path_of new m) p ∙ ap (λ (ds : List Decision). decision ∷ ds) (path number below)))

        begun : (parent : Node) → IsNode new child.parent parent → (node.bound ≡ parent.bound) × (node.prices ≡ parent.prices)
        begun parent at = let same = is_number child.parent parent p at in (ap (λ (x : Node). x.bound) same, ap (λ (x : Node). x.prices) same)

    each : (k : ℕ) (x : Node) (run : List Round) → IsNode new k x → slice_get (runs ++ first ∷ second ∷ []) (pred k) ≡ Some run →
        OneOfFour tree number cost node forcing barring k x → Ran k x run
    each k x run is h (inl c) =
        let l : k ≤ length tree = node-below tree k x c.1 in
        let e = lower.each k x run c.1 (older_run k run l h is.0) in (
          run-like case limits less tree new k x x run g.shape ext c.1 (alike x) e.0,
          e.1,
          subst (λ (ds : List Decision). IsHeld case.week less ds x run) (sym (path k l)) e.2,
        )
    each k x run is h (inr (inl c)) =
        let l : k ≤ length tree = omega (arith, below, c.0) in
        let at : IsNode tree k node = subst (λ (m : ℕ). IsNode tree m node) (sym c.0) t.here in
        let e = lower.each k node run at (older_run k run l h is.0) in
        subst (λ (y : Node). Ran k y run) c.1 (
          run-like case limits less tree new k node (turned cost node) run g.shape ext at (record { parent = refl; decision = refl; prices = refl; bound = refl }) e.0,
          e.1,
          record { branched = λ s. (e.2.open_leaf chosen.open_leaf).1; empty = λ s. cc; closed = λ s. cc; spent = λ s. cc; open_leaf = λ s. cc },
        )
    each k x run is h (inr (inr (inl c))) =
        let there : slice_get (runs ++ first ∷ second ∷ []) (pred k) ≡ Some first = get-after runs (first ∷ second ∷ []) (pred k) 0 (omega (arith, g.all_runs, c.0)) in
        let same : first ≡ run = cc in
        let at : IsNode new k forcing = subst (λ (m : ℕ). IsNode new m forcing) (sym c.0) t.is_forcing in
        subst (λ (y : Node). Ran k y run) c.1 (subst (λ (z : List Round). Ran k forcing z) same
        (child_run (forces driver order) forcing k first at (omega (arith, c.0)) pf df rf))
    each k x run is h (inr (inr (inr c))) =
        let there : slice_get (runs ++ first ∷ second ∷ []) (pred k) ≡ Some second = get-after runs (first ∷ second ∷ []) (pred k) 1 (omega (arith, g.all_runs, c.0)) in
        let same : second ≡ run = cc in
        let at : IsNode new k barring = subst (λ (m : ℕ). IsNode new m barring) (sym c.0) t.is_barring in
        subst (λ (y : Node). Ran k y run) c.1 (subst (λ (z : List Round). Ran k barring z) same
        (child_run (bars driver order) barring k second at (omega (arith, c.0)) pb db rb))
