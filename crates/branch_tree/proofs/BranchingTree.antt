-- A branching keeps a tree growing.
use Rattle.std.proofs.Common.{◌≡◌, ℕ, ◌≤◌, List, [], ◌∷◌, ◌++◌, length, arith, length-append}
use Rattle.duty_plan.specs.declared.plans.Case.{Case}
use Rattle.duty_plan.specs.declared.outcomes.Limits.{Limits}
use Rattle.duty_plan.specs.declared.nodes.Decision.TheVariants.{Forced as forces, Barred as bars}
use Rattle.duty_plan.specs.declared.nodes.Node.{Node}
use Rattle.duty_plan.specs.Rounds.{Round}
use Rattle.duty_plan.specs.Nodes.{path_of}
use Rattle.branch_tree.specs.Growth.{IsGrowing, IsRanNode, IsChosen, branched_at}
use Rattle.branch_tree.specs.GrowthLaws.{BranchingGrows}
use Rattle.branch_tree.proofs.Turning.{AreTurned, are_turned}
use Rattle.branch_tree.proofs.BranchedShape.{shape-grows}
use Rattle.branch_tree.proofs.BranchedRuns.{runs-grow}
use Rattle.branch_tree.proofs.BranchedCosts.{costs-grow}
use Rattle.branch_tree.proofs.BranchedBest.{best-grows}
use Rattle.branch_tree.proofs.BranchedPairs.{pairs-grow}

grows : (case : Case) (limits : Limits) (cost less : ℕ) (tree : List Node) (runs : List (List Round)) (number : ℕ) (node : Node)
    (driver order : ℕ) (forcing barring : Node) (first second : List Round) (new : List Node) → IsGrowing case limits cost tree runs → less ≤ cost →
    IsChosen case limits cost tree runs number node driver order → forcing.parent ≡ number → barring.parent ≡ number →
    forcing.decision ≡ forces driver order → barring.decision ≡ bars driver order →
    IsRanNode case limits less (forces driver order ∷ path_of tree number) node.bound node.prices forcing first →
    IsRanNode case limits less (bars driver order ∷ path_of tree number) node.bound node.prices barring second →
    AreTurned tree new number cost node forcing barring →
    IsGrowing case limits less new (runs ++ first ∷ second ∷ [])
grows case limits cost less tree runs number node driver order forcing barring first second new g low chosen pf pb df db rf rb t = record {
  few = omega (arith, t.size, chosen.room);
  shape = shape-grows case limits cost less tree runs number node driver order forcing barring first second new g low chosen pf pb df db rf rb t;
  all_runs = let two : length (first ∷ second ∷ []) ≡ 2 = omega arith in omega (arith, g.all_runs, t.size, length-append runs (first ∷ second ∷ []));
  each = runs-grow case limits cost less tree runs number node driver order forcing barring first second new g low chosen pf pb df db rf rb t;
  branching = record {
    seen = costs-grow case limits cost less tree runs number node driver order forcing barring first second new g low chosen pf pb df db rf rb t;
    best_first = best-grows case limits cost less tree runs number node driver order forcing barring first second new g low chosen pf pb df db rf rb t;
    picks = pairs-grow case limits cost less tree runs number node driver order forcing barring first second new g low chosen pf pb df db rf rb t;
  };
}

pub branching_grows : BranchingGrows
branching_grows case limits cost less tree runs number node driver order forcing barring first second g low chosen pf pb df db rf rb =
    grows case limits cost less tree runs number node driver order forcing barring first second (branched_at tree number cost node forcing barring)
    g low chosen pf pb df db rf rb (are_turned tree number cost node forcing barring chosen.is_node)
