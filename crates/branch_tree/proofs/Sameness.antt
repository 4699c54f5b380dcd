-- A tree whose nodes keep their parents, decisions, prices and bounds, whatever states they take and whatever nodes
-- follow: its paths, runs and picks last.
use Rattle.std.proofs.Common.{◌≡◌, ◌≢◌, ◌⊎◌, inl, inr, ℕ, zero, suc, pred, ◌+◌, ◌<◌, ◌≤◌, List, ◌∷◌, length, reverse, ap, sym, subst, ◌∙◌, arith}
use Rattle.week_book.specs.declared.weeks.Week.{Week}
use Rattle.duty_plan.specs.declared.plans.Case.{Case}
use Rattle.duty_plan.specs.declared.outcomes.Limits.{Limits}
use Rattle.duty_plan.specs.declared.nodes.Decision.{Decision}
use Rattle.duty_plan.specs.declared.nodes.Node.{Node}
use Rattle.duty_plan.specs.declared.pricing.Prices.{Prices}
use Rattle.duty_plan.specs.Values.{ArePairsOf, decided_by}
use Rattle.duty_plan.specs.LabelLists.{chunks_for}
use Rattle.duty_plan.specs.Rounds.{Round, ArePricingRounds}
use Rattle.duty_plan.specs.Nodes.{path_of, IsNode, IsTree, HasChildren, IsFreeAt}
use Rattle.duty_plan.specs.Branching.{IsBranchingPair, ViolatesCover}
use Rattle.duty_plan.specs.Trees.{HasRun}
use Rattle.duty_plan.proofs.Lists.{slice_get-lt}
use Rattle.price_master.proofs.Carried.{get-below}
use Rattle.branch_tree.specs.Paths.{HasEarlierParents}
use Rattle.branch_tree.proofs.Paths.{path-node}
use Rattle.branch_tree.proofs.Parents.{root-or-later, path-zero}

-- alike in all but state and what was seen
pub record IsLike (node other : Node) : Type 0 where
  pub parent : other.parent ≡ node.parent
  pub decision : other.decision ≡ node.decision
  pub prices : other.prices ≡ node.prices
  pub bound : other.bound ≡ node.bound

-- the newer tree has a like node for each node of the older one
abbrev pub Extends : List Node → List Node → Type 0
Extends tree new = (k : ℕ) (node : Node) → IsNode tree k node → (other : Node) × IsNode new k other × IsLike node other

pub tree-earlier : (week : Week) (tree : List Node) → IsTree week tree → HasEarlierParents tree
tree-earlier week tree t k node is = by_root (root-or-later k is.0)
  where
    by_root : (k ≡ 1) ⊎ (1 < k) → node.parent < k
    by_root (inl e) =
        let at : IsNode tree 1 node = subst (λ (x : ℕ). IsNode tree x node) e is in
        omega (arith, (t.root node at).0)
    by_root (inr l) = omega (arith, t.others k node l is)

pub node-below : (tree : List Node) (k : ℕ) (node : Node) → IsNode tree k node → k ≤ length tree
node-below tree k node is = omega (arith, is.0, slice_get-lt tree (pred k) node is.1)

-- the node of a number is one
pub one-node : (tree : List Node) (k : ℕ) (a b : Node) → IsNode tree k a → IsNode tree k b → a ≡ b
one-node tree k a b p q = let x = p.1 in let y = q.1 in cc

-- an older node of the newer tree is like the older tree's
pub like-back : (tree new : List Node) → Extends tree new → (k : ℕ) (other : Node) → IsNode new k other → k ≤ length tree →
    (node : Node) × IsNode tree k node × IsLike node other
like-back tree new ext k other is l =
    let found = get-below tree (pred k) (omega (arith, is.0)) in
    let at : IsNode tree k found.0 = (is.0, found.1) in
    let next = ext k found.0 at in
    let same : next.0 ≡ other = one-node new k next.0 other next.1 is in
    (found.0, at, subst (λ (x : Node). IsLike found.0 x) same next.2)

pub paths-like : (tree new : List Node) → HasEarlierParents tree → Extends tree new → (fuel k : ℕ) → k < fuel → k ≤ length tree →
    path_of new k ≡ path_of tree k
paths-like tree new early ext zero k f l = absurd (omega arith)
paths-like tree new early ext (suc fuel) zero f l = path-zero (reverse new) ∙ sym (path-zero (reverse tree))
paths-like tree new early ext (suc fuel) (suc k) f l =
    let found = get-below tree k (omega arith) in
    let at : IsNode tree (suc k) found.0 = (omega arith, found.1) in
    let next = ext (suc k) found.0 at in
    let low : found.0.parent < suc k = early (suc k) found.0 at in
    let rest : path_of new found.0.parent ≡ path_of tree found.0.parent = paths-like tree new early ext fuel found.0.parent (omega arith) (omega arith) in
    let there : path_of new (suc k) ≡ next.0.decision ∷ path_of new next.0.parent = path-node new (suc k) next.0 next.1 (omega (arith, next.2.parent)) in
    let here : path_of tree (suc k) ≡ found.0.decision ∷ path_of tree found.0.parent = path-node tree (suc k) found.0 at low in
    there
    ∙ (ap (λ (d : Decision). d ∷ path_of new next.0.parent) next.2.decision
    ∙ (ap (λ (n : ℕ). found.0.decision ∷ path_of new n) next.2.parent
    ∙ (ap (λ (ds : List Decision). found.0.decision ∷ ds) rest ∙ sym here)))

-- the paths of a tree last
pub path-like : (week : Week) (tree new : List Node) → IsTree week tree → Extends tree new → (k : ℕ) → k ≤ length tree → path_of new k ≡ path_of tree k
path-like week tree new t ext k l = paths-like tree new (tree-earlier week tree t) ext (suc k) k (omega arith) l

-- a run lasts
pub run-like : (case : Case) (limits : Limits) (cost : ℕ) (tree new : List Node) (k : ℕ) (node other : Node) (run : List Round) → IsTree case.week tree →
    Extends tree new → IsNode tree k node → IsLike node other → HasRun case limits cost tree k node run → HasRun case limits cost new k other run
run-like case limits cost tree new k node other run t ext is like r = record {
  start = r.start;
  begins = record {
    pairs = subst (λ (ds : List Decision). ArePairsOf case.week ds r.start.pairs) (sym (path-like case.week tree new t ext k (node-below tree k node is))) r.begins.pairs;
    root = λ e. r.begins.root (sym like.parent ∙ e);
    child = λ parent at. child parent at;
  };
  run = subst (λ (x : ℕ). ArePricingRounds (chunks_for limits.labels) case limits.rounds r.start cost x other.prices run) (sym like.bound)
      (subst (λ (x : Prices). ArePricingRounds (chunks_for limits.labels) case limits.rounds r.start cost node.bound x run) (sym like.prices) r.run);
}
  where
    child : (parent : Node) → IsNode new other.parent parent → (r.start.bound ≡ parent.bound) × (r.start.prices ≡ parent.prices)
    child parent at =
        let low : node.parent < k = tree-earlier case.week tree t k node is in
        let there : IsNode new node.parent parent = subst (λ (x : ℕ). IsNode new x parent) like.parent at in
        let back = like-back tree new ext node.parent parent there (omega (arith, low, node-below tree k node is)) in
        let begun = r.begins.child back.0 back.1 in
        (begun.0 ∙ sym back.2.bound, begun.1 ∙ sym back.2.prices)

-- the pick at a node reads its path and its run alone
pub pick-like : (week : Week) (tree new : List Node) (k : ℕ) (run : List Round) (driver order : ℕ) → path_of new k ≡ path_of tree k →
    IsBranchingPair week tree k run driver order → IsBranchingPair week new k run driver order
pick-like week tree new k run driver order e p = record {
  free = there driver order ∙ p.free;
  uneven = by_uneven p.uneven;
  least = λ d o ld lo f h. p.least d o ld lo (sym (there d o) ∙ f) h;
}
  where
    there : (d o : ℕ) → decided_by (path_of new k) d o ≡ decided_by (path_of tree k) d o
    there d o = ap (λ (ds : List Decision). decided_by ds d o) e

    by_uneven : ((d o : ℕ) → d < length week.drivers → o < length week.orders → IsFreeAt tree k d o → ViolatesCover run o → ⊥) ⊎ ViolatesCover run order →
        ((d o : ℕ) → d < length week.drivers → o < length week.orders → IsFreeAt new k d o → ViolatesCover run o → ⊥) ⊎ ViolatesCover run order
    by_uneven (inl g) = inl (λ d o ld lo f u. g d o ld lo (sym (there d o) ∙ f) u)
    by_uneven (inr g) = inr g

-- a branched node keeps its children, where no later node is one
pub children-like : (week : Week) (tree new : List Node) (k : ℕ) → Extends tree new → k ≤ length tree → path_of new k ≡ path_of tree k →
    ((j : ℕ) (node : Node) → length tree < j → IsNode new j node → node.parent ≢ k) → HasChildren week tree k → HasChildren week new k
children-like week tree new k ext l e fresh h =
    let f = ext h.child h.forcing h.is_forcing in
    let b = ext (h.child + 1) h.barring h.is_barring in record {
      child = h.child;
      driver = h.driver;
      order = h.order;
      forcing = f.0;
      barring = b.0;
      is_forcing = f.1;
      is_barring = b.1;
      parents = (f.2.parent ∙ h.parents.0, b.2.parent ∙ h.parents.1);
      forces_it = f.2.decision ∙ h.forces_it;
      bars_it = b.2.decision ∙ h.bars_it;
      in_week = h.in_week;
      free = ap (λ (ds : List Decision). decided_by ds h.driver h.order) e ∙ h.free;
      only = λ j node is p. only j node is p (at-most j (length tree));
    }
  where
    at-most : (j n : ℕ) → (j ≤ n) ⊎ (n < j)
    at-most zero n = inl (omega arith)
    at-most (suc j) zero = inr (omega arith)
    at-most (suc j) (suc n) = by_rest (at-most j n)
      where
        by_rest : (j ≤ n) ⊎ (n < j) → (suc j ≤ suc n) ⊎ (suc n < suc j)
        by_rest (inl g) = inl (omega arith)
        by_rest (inr g) = inr (omega arith)

    only : (j : ℕ) (node : Node) → IsNode new j node → node.parent ≡ k → (j ≤ length tree) ⊎ (length tree < j) → (j ≡ h.child) ⊎ (j ≡ h.child + 1)
    only j node is p (inl g) = let back = like-back tree new ext j node is g in h.only j back.0 back.1 (sym back.2.parent ∙ p)
    only j node is p (inr g) = absurd (fresh j node g is p)
