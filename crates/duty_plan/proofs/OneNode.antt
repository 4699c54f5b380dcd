-- An outcome whose tree is the root alone, closed.
use Rattle.std.proofs.Common.{◌≡◌, ℕ, suc, zero, pred, ◌≤◌, List, [], ◌∷◌, refl, ap, sym, subst, arith, Some, slice_get}
use Rattle.duty_plan.specs.declared.plans.Case.{Case}
use Rattle.duty_plan.specs.declared.plans.Plan.{Plan}
use Rattle.duty_plan.specs.declared.nodes.Decision.TheVariants.{Root}
use Rattle.duty_plan.specs.declared.nodes.Node.{Node}
use Rattle.duty_plan.specs.declared.nodes.NodeState.TheVariants.{Closed}
use Rattle.duty_plan.specs.declared.outcomes.Limits.{Limits}
use Rattle.duty_plan.specs.declared.outcomes.Outcome.{Outcome}
use Rattle.duty_plan.specs.declared.outcomes.State.TheVariants.{Proved}
use Rattle.duty_plan.specs.declared.pricing.Prices.{Prices}
use Rattle.duty_plan.specs.Duties.{IsLawfulPlan, cost_of_plan}
use Rattle.duty_plan.specs.Values.{cost_of_all}
use Rattle.duty_plan.specs.Rounds.{Round}
use Rattle.duty_plan.specs.Nodes.{IsNode, IsTree}
use Rattle.duty_plan.specs.Trees.{HasRun, IsRight, IsState, IsLimits, EndsEmpty, BeatsDuties}

-- the root, closed at a cost
abbrev pub closed_root : Prices → ℕ → Node
closed_root prices cost = record { parent = 0; decision = Root; prices = prices; bound = cost; seen = 0; state = Closed }

-- the outcome of a plan with this tree
abbrev pub one_node_of : Plan → Prices → ℕ → Outcome
one_node_of plan prices cost = record { plan = plan; cost = cost; bound = cost; tree = closed_root prices cost ∷ []; state = Proved }

only-node : (x y : Node) (k : ℕ) → IsNode (x ∷ []) k y → (k ≡ 1) × (x ≡ y)
only-node x y zero is = absurd (omega (arith, is.0))
only-node x y (suc zero) is = (refl, let h = is.1 in cc)
only-node x y (suc (suc k)) is = let h = is.1 in cc

-- it is right where the root has a run that reaches the cost and doesn't end empty, and the cost beats each least duty
pub one_node : (case : Case) (limits : Limits) (plan : Plan) (prices : Prices) (cost : ℕ) (run : List Round) → IsLimits limits →
    IsLawfulPlan case plan → cost_of_plan case plan ≡ cost → cost ≤ cost_of_all case.week →
    HasRun case limits cost (closed_root prices cost ∷ []) 1 (closed_root prices cost) run → BeatsDuties case cost run →
    (EndsEmpty run → ⊥) → IsRight case limits (one_node_of plan prices cost)
one_node case limits plan prices cost run l lawful costs cheap has beats full = record {
  plan = record { lawful = lawful; costs = costs; cheap = cheap };
  runs = run ∷ [];
  tree = record { few = l.nodes.0; shape = shape; all_runs = refl; each = each };
  branching = record {
    seen = record {
      unbranched = λ k node is e. sym (ap (λ (x : Node). x.seen) (only_this node k is).1);
      branched = λ k node is e. let same = ap (λ (x : Node). x.state) (only_this node k is).1 in cc;
      falls = λ j k first second a b s is at p q. let one = (only_this first j is).0 in let two = (only_this second k at).0 in absurd (omega arith);
    };
    best_first = λ k child node forcing other j is at e d o f c. let same = ap (λ (x : Node). x.decision) (only_this forcing child at).1 in cc;
    picks = λ k child d o rounds forcing h at e f. let same = ap (λ (x : Node). x.decision) (only_this forcing child at).1 in cc;
  };
  state = record {
    open_nodes = ((λ e. cc), (λ leaf. let same = ap (λ (x : Node). x.state) (only_this leaf.1 leaf.0 leaf.2).1 in let is = leaf.3 in cc));
    full = λ e. cc;
    open_labels = ((λ e. cc), (λ leaf. let same = ap (λ (x : Node). x.state) (only_this leaf.1.1 leaf.1.0 leaf.1.2).1 in let is = leaf.1.3 in cc));
  };
  bound = record { proved = λ e. refl; least = λ n k node is e. absurd (n refl); attained = λ n. absurd (n refl) };
}
  where
    only_this : (node : Node) (k : ℕ) → IsNode (closed_root prices cost ∷ []) k node → (k ≡ 1) × (closed_root prices cost ≡ node)
    only_this node k is = only-node (closed_root prices cost) node k is

    shape : IsTree case.week (closed_root prices cost ∷ [])
    shape = record {
      some = omega arith;
      root = λ node is. let same = (only_this node 1 is).1 in (sym (ap (λ (x : Node). x.parent) same), sym (ap (λ (x : Node). x.decision) same));
      others = λ k node s is. let one = (only_this node k is).0 in absurd (omega arith);
      parents = λ k node parent is at. absurd (omega (arith, at.0, sym (ap (λ (x : Node). x.parent) (only_this node k is).1)));
      branched = λ k node is e. let same = ap (λ (x : Node). x.state) (only_this node k is).1 in cc;
    }

    state : IsState case.week cost (closed_root prices cost ∷ []) 1 (closed_root prices cost) run
    state = record { branched = λ e. cc; empty = λ e. cc; closed = λ e. (full, omega arith); spent = λ e. cc; open_leaf = λ e. cc }

    each : (k : ℕ) (node : Node) (rounds : List Round) → IsNode (closed_root prices cost ∷ []) k node →
        slice_get (run ∷ []) (pred k) ≡ Some rounds →
        HasRun case limits cost (closed_root prices cost ∷ []) k node rounds × BeatsDuties case cost rounds ×
        IsState case.week cost (closed_root prices cost ∷ []) k node rounds
    each zero node rounds is h = absurd (omega (arith, is.0))
    each (suc (suc k)) node rounds is h = cc
    each (suc zero) node rounds is h =
        let same : closed_root prices cost ≡ node = (only_this node 1 is).1 in
        let these : run ≡ rounds = cc in
        subst (λ (x : List Round). HasRun case limits cost (closed_root prices cost ∷ []) 1 node x × BeatsDuties case cost x ×
        IsState case.week cost (closed_root prices cost ∷ []) 1 node x) these
        (subst (λ (y : Node). HasRun case limits cost (closed_root prices cost ∷ []) 1 y run × BeatsDuties case cost run ×
        IsState case.week cost (closed_root prices cost ∷ []) 1 y run) same (has, beats, state))
