-- A branching keeps what the kept plan cost at each.
use Rattle.std.proofs.Common.{◌≡◌, ◌≢◌, ◌⊎◌, inl, inr, ℕ, ◌<◌, ◌≤◌, List, ◌∷◌, length, ap, sym, subst, ◌∙◌, arith}
use Rattle.duty_plan.specs.declared.plans.Case.{Case}
use Rattle.duty_plan.specs.declared.outcomes.Limits.{Limits}
use Rattle.duty_plan.specs.declared.nodes.Decision.TheVariants.{Forced as forces, Barred as bars}
use Rattle.duty_plan.specs.declared.nodes.Node.{Node}
use Rattle.duty_plan.specs.declared.nodes.NodeState.TheVariants.{Branched}
use Rattle.duty_plan.specs.Values.{cost_of_all}
use Rattle.duty_plan.specs.Rounds.{Round}
use Rattle.duty_plan.specs.Nodes.{path_of, IsNode}
use Rattle.duty_plan.specs.Branching.{HasIncumbentCosts}
use Rattle.price_master.proofs.Lookups.{at-most}
use Rattle.branch_tree.specs.Growth.{IsGrowing, IsRanNode, IsChosen, turned}
use Rattle.branch_tree.proofs.Sameness.{one-node}
use Rattle.branch_tree.proofs.Turning.{AreTurned, OneOfFour, turned-cases, turned-fresh, HasOldParent, old-parent}
use Rattle.branch_tree.proofs.Lasting.{growth_lasts}

pub costs-grow : (case : Case) (limits : Limits) (cost less : ℕ) (tree : List Node) (runs : List (List Round)) (number : ℕ) (node : Node)
    (driver order : ℕ) (forcing barring : Node) (first second : List Round) (new : List Node) → IsGrowing case limits cost tree runs → less ≤ cost →
    IsChosen case limits cost tree runs number node driver order → forcing.parent ≡ number → barring.parent ≡ number →
    forcing.decision ≡ forces driver order → barring.decision ≡ bars driver order →
    IsRanNode case limits less (forces driver order ∷ path_of tree number) node.bound node.prices forcing first →
    IsRanNode case limits less (bars driver order ∷ path_of tree number) node.bound node.prices barring second →
    AreTurned tree new number cost node forcing barring →
    HasIncumbentCosts case.week less new
costs-grow case limits cost less tree runs number node driver order forcing barring first second new g low chosen pf pb df db rf rb t = seen
  where
    lower : IsGrowing case limits less tree runs
    lower = growth_lasts case limits cost less tree runs low g

    cases : (k : ℕ) (x : Node) → IsNode new k x → OneOfFour tree number cost node forcing barring k x
    cases k x is = turned-cases tree new number cost node forcing barring t k x is

    parent_at : (k : ℕ) (x parent : Node) → k ≤ length tree → IsNode new k x → IsNode new x.parent parent → HasOldParent tree k x parent
    parent_at k x parent l is at = old-parent case.week tree new number cost node forcing barring g.shape t chosen.open_leaf k x parent l is at

    fresh : (k : ℕ) (x : Node) → length tree < k → IsNode new k x → x.parent ≡ number
    fresh k x l is = turned-fresh tree new number cost node forcing barring t pf pb k x l is

    is_number : (k : ℕ) (x : Node) → k ≡ number → IsNode new k x → turned cost node ≡ x
    is_number k x e is = one-node new number (turned cost node) x t.is_turned (subst (λ (m : ℕ). IsNode new m x) e is)

    seen : HasIncumbentCosts case.week less new
    seen = record {
      unbranched = λ k x is n. unbranched k x n (cases k x is);
      branched = λ k x is e. branched k x e (cases k x is);
      falls = λ j k one two a b l is at p q. falls j k one two a b l is at p q (at-most j (length tree)) (at-most k (length tree));
    }
      where
        unbranched : (k : ℕ) (x : Node) → x.state ≢ Branched → OneOfFour tree number cost node forcing barring k x → x.seen ≡ 0
        unbranched k x n (inl c) = g.branching.seen.unbranched k x c.1 n
        unbranched k x n (inr (inl c)) = absurd (n (sym (ap (λ (y : Node). y.state) c.1)))
        unbranched k x n (inr (inr (inl c))) = sym (ap (λ (y : Node). y.seen) c.1) ∙ rf.unseen
        unbranched k x n (inr (inr (inr c))) = sym (ap (λ (y : Node). y.seen) c.1) ∙ rb.unseen

        branched : (k : ℕ) (x : Node) → x.state ≡ Branched → OneOfFour tree number cost node forcing barring k x →
            (x.bound < x.seen) × (less ≤ x.seen) × (x.seen ≤ cost_of_all case.week)
        branched k x e (inl c) = lower.branching.seen.branched k x c.1 e
        branched k x e (inr (inl c)) =
            subst (λ (y : Node). (y.bound < y.seen) × (less ≤ y.seen) × (y.seen ≤ cost_of_all case.week)) c.1 (chosen.below, low, chosen.cheap)
        branched k x e (inr (inr (inl c))) = absurd (rf.leaf (ap (λ (y : Node). y.state) c.1 ∙ e))
        branched k x e (inr (inr (inr c))) = absurd (rb.leaf (ap (λ (y : Node). y.state) c.1 ∙ e))

        falls : (j k : ℕ) (one two a b : Node) → j < k → IsNode new j one → IsNode new k two → IsNode new one.parent a → IsNode new two.parent b →
            (j ≤ length tree) ⊎ (length tree < j) → (k ≤ length tree) ⊎ (length tree < k) → b.seen ≤ a.seen
        falls j k one two a b l is at p q (inl lj) (inl lk) =
            let x = parent_at j one a lj is p in
            let y = parent_at k two b lk at q in
            g.branching.seen.falls j k x.node y.node a b l x.is_node y.is_node x.is_parent y.is_parent
        falls j k one two a b l is at p q (inr lj) (inl lk) = absurd (omega arith)
        falls j k one two a b l is at p q (inl lj) (inr lk) =
            let x = parent_at j one a lj is p in
            let there = ap (λ (y : Node). y.seen) (is_number two.parent b (fresh k two lk at) q) in
            let range = g.branching.seen.branched x.node.parent a x.is_parent x.branched in omega (arith, range.1)
        falls j k one two a b l is at p q (inr lj) (inr lk) =
            let here = ap (λ (y : Node). y.seen) (is_number one.parent a (fresh j one lj is) p) in
            let there = ap (λ (y : Node). y.seen) (is_number two.parent b (fresh k two lk at) q) in omega arith
