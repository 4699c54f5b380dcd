-- A search begins with its root, and lasts through a branching.
use Rattle.std.proofs.Common.{◌≡◌, ◌≢◌, ◌⊎◌, inl, inr, ℕ, zero, suc, pred, ◌+◌, ◌^◌, ◌<◌, ◌≤◌, List, [], ◌∷◌, ◌++◌, length, get_or, refl, ap, sym, subst, ◌∙◌, arith, Some, slice_get, length-append}
use Rattle.week_book.specs.declared.weeks.Week.{Week}
use Rattle.duty_plan.specs.declared.plans.Case.{Case}
use Rattle.duty_plan.specs.declared.plans.Plan.{Plan}
use Rattle.duty_plan.specs.declared.outcomes.Limits.{Limits}
use Rattle.duty_plan.specs.declared.nodes.Decision.{Decision}
use Rattle.duty_plan.specs.declared.nodes.Decision.TheVariants.{Root, Forced as forces, Barred as bars}
use Rattle.duty_plan.specs.declared.nodes.Node.{Node}
use Rattle.duty_plan.specs.declared.nodes.NodeStart.{NodeStart}
use Rattle.duty_plan.specs.declared.deciding.Pairs.{Pairs}
use Rattle.duty_plan.specs.declared.deciding.Pair.TheVariants.{Free}
use Rattle.duty_plan.specs.declared.pricing.Prices.{Prices}
use Rattle.duty_plan.specs.Values.{ArePairsOf, IsPrices, decided_by, pair_at}
use Rattle.duty_plan.specs.Rounds.{Round}
use Rattle.duty_plan.specs.Nodes.{IsNode, path_of}
use Rattle.duty_plan.specs.Branching.{IsBranchingPair, ViolatesCover}
use Rattle.duty_plan.specs.Trees.{IsLimits}
use Rattle.duty_plan.proofs.Lists.{slice_get-lt}
use Rattle.branch_tree.specs.Growth.{IsKept, IsRanNode, IsChosen, branched_at}
use Rattle.branch_tree.specs.Leaving.{AreCounts, HasFreeIn, HasRan}
use Rattle.branch_tree.specs.Reaching.{AreWeights, free_pairs}
use Rattle.branch_tree.specs.Searching.{IsSearching, IsNextNode, IsNextPair, IsRootStart, IsStartUnder}
use Rattle.price_master.specs.Laws.{DecidesFree, ForcesOnce}
use Rattle.price_master.proofs.Decisions.{is-forced}
use Rattle.duty_plan.specs.Nodes.{IsTree}
use Rattle.branch_tree.proofs.ForcedOnce.{once-path, tree-once}
use Rattle.branch_tree.proofs.Parents.{path-root}
use Rattle.branch_tree.proofs.Weighing.{branch-weighs, root-weighs}
use Rattle.price_master.proofs.Carried.{get-below}
use Rattle.branch_tree.proofs.Lasting.{ran-lasts}
use Rattle.branch_tree.proofs.Rooting.{root_grows}
use Rattle.branch_tree.proofs.Turning.{AreTurned, are_turned, OneOfFour, turned-cases}
use Rattle.branch_tree.proofs.BranchingTree.{branching_grows}

-- the only element of a list
single : {X : Type 0} (x y : X) (n : ℕ) → slice_get (x ∷ []) n ≡ Some y → x ≡ y
single x y zero h = cc
single x y (suc n) h = cc

pub root-searching : (case : Case) (limits : Limits) (plan : Plan) (cost : ℕ) (start : NodeStart) (node : Node) (count : List ℕ) →
    IsLimits limits → IsKept case plan cost → IsRootStart case.week start → HasRan case limits cost start node count → node.parent ≡ 0 →
    node.decision ≡ Root → IsPrices case.week node.prices → IsSearching case limits plan cost (node ∷ []) (count ∷ [])
root-searching case limits plan cost start node count l kept begins ran parent decision priced =
    let one = ran (Root ∷ []) begins.pairs in
    let left : IsRanNode case limits cost (Root ∷ []) 0 start.prices node one.0 =
    subst (λ (x : ℕ). IsRanNode case limits cost (Root ∷ []) x start.prices node one.0) begins.bound one.1 in record {
      runs = one.0 ∷ [];
      kept = kept;
      growing = root_grows case limits cost start.prices node one.0 l begins.prices parent decision left;
      as_many = refl;
      counted = λ n run other h i.
          subst (λ (x : List ℕ). AreCounts case.week run x) (single count other n i)
          (subst (λ (x : List Round). AreCounts case.week x count) (single one.0 run n h) one.2);
      priced = λ k x is. subst (λ (y : Node). IsPrices case.week y.prices) (single node x (pred k) is.1) priced;
      weights = 2 ^ free_pairs case.week (Root ∷ []) ∷ [];
      weighed = root-weighs case.week node (path-root (node ∷ []) node (omega arith, refl) (parent, decision));
    }

-- the pair that code picks is the pick
picked : (week : Week) (tree : List Node) (number : ℕ) (here : Pairs) (counts : List ℕ) (driver order : ℕ) (run : List Round) →
    ArePairsOf week (path_of tree number) here → AreCounts week run counts → IsNextPair week here counts driver order → IsBranchingPair week tree number run driver order
picked week tree number here counts driver order run p c n = record {
  free = sym (p.each driver order n.in_week.0 n.in_week.1) ∙ n.free;
  uneven = by_uneven n.uneven;
  least = λ d o ld lo f h. n.least d o ld lo (p.each d o ld lo ∙ f) (λ m. c.uneven o lo (h (c.other order n.in_week.1 m)));
}
  where
    by_uneven : ((d o : ℕ) → d < length week.drivers → o < length week.orders → pair_at here d o ≡ Free → get_or counts o 0 ≡ 1) ⊎ (get_or counts order 0 ≢ 1) →
        ((d o : ℕ) → d < length week.drivers → o < length week.orders → decided_by (path_of tree number) d o ≡ Free → ViolatesCover run o → ⊥) ⊎ ViolatesCover run order
    by_uneven (inl g) = inl (λ d o ld lo f u. c.uneven o lo u (g d o ld lo (p.each d o ld lo ∙ f)))
    by_uneven (inr g) = inr (c.other order n.in_week.1 g)

-- an element of a list with two more at its end
two-more : {X : Type 0} (xs : List X) (a b x : X) (n : ℕ) → slice_get (xs ++ a ∷ b ∷ []) n ≡ Some x →
    ((n < length xs) × (slice_get xs n ≡ Some x)) ⊎ (((n ≡ length xs) × (a ≡ x)) ⊎ ((n ≡ suc (length xs)) × (b ≡ x)))
two-more [] a b x zero h = inr (inl (refl, cc))
two-more [] a b x (suc zero) h = inr (inr (refl, cc))
two-more [] a b x (suc (suc n)) h = cc
two-more (y ∷ ys) a b x zero h = inl (omega arith, h)
two-more (y ∷ ys) a b x (suc n) h = by_rest (two-more ys a b x n h)
  where
    by_rest : ((n < length ys) × (slice_get ys n ≡ Some x)) ⊎ (((n ≡ length ys) × (a ≡ x)) ⊎ ((n ≡ suc (length ys)) × (b ≡ x))) →
        ((suc n < length (y ∷ ys)) × (slice_get (y ∷ ys) (suc n) ≡ Some x)) ⊎ (((suc n ≡ length (y ∷ ys)) × (a ≡ x)) ⊎ ((suc n ≡ suc (length (y ∷ ys))) × (b ≡ x)))
    by_rest (inl g) = inl (omega arith, g.1)
    by_rest (inr (inl g)) = inr (inl (omega arith, g.1))
    by_rest (inr (inr g)) = inr (inr (omega arith, g.1))

pub branch-searching : (case : Case) (limits : Limits) (plan less_plan : Plan) (cost middle less : ℕ) (tree : List Node) (counts : List (List ℕ)) (number : ℕ) (node : Node)
    (here : Pairs) (forced barred : NodeStart) (count : List ℕ) (driver order : ℕ) (forcing barring : Node) (one two : List ℕ) →
    IsSearching case limits plan cost tree counts → (next : IsNextNode cost tree number) → next.node ≡ node → length tree + 2 ≤ limits.nodes →
    ArePairsOf case.week (path_of tree number) here → slice_get counts (pred number) ≡ Some count → IsNextPair case.week here count driver order →
    IsStartUnder case.week tree number (forces driver order) forced → IsStartUnder case.week tree number (bars driver order) barred →
    middle ≤ cost → less ≤ middle → IsKept case less_plan less → HasRan case limits middle forced forcing one →
    HasRan case limits less barred barring two → forcing.parent ≡ number → barring.parent ≡ number →
    forcing.decision ≡ forces driver order → barring.decision ≡ bars driver order → IsPrices case.week forcing.prices → IsPrices case.week barring.prices →
    IsSearching case limits less_plan less (branched_at tree number cost node forcing barring) (counts ++ one ∷ two ∷ [])
branch-searching case limits plan less_plan cost middle less tree counts number node here forced barred count driver order forcing barring one two
    s next same room p c pair pf pb lm ll kept rf rb parf parb df db pricef priceb =
    let first = left forced (forces driver order) middle forcing one pf rf in
    let second = left barred (bars driver order) less barring two pb rb in record {
      runs = s.runs ++ first.0 ∷ second.0 ∷ [];
      kept = kept;
      growing = branching_grows case limits cost less tree s.runs number node driver order forcing barring first.0 second.0 s.growing (omega arith) chosen parf parb df db
          (ran-lasts case limits middle less (forces driver order ∷ path_of tree number) node.bound node.prices forcing first.0 ll first.1) second.1;
      as_many = omega (arith, s.as_many, turned_all.size, length-append counts (one ∷ two ∷ []));
      counted = λ n run other h i. counted n run other first second (two-more s.runs first.0 second.0 run n h) (two-more counts one two other n i);
      priced = λ k x is. priced k x (turned-cases tree (branched_at tree number cost node forcing barring) number cost node forcing barring turned_all k x is);
      weights = heavier.0;
      weighed = heavier.1;
    }
  where
    is_node : IsNode tree number node
    is_node = subst (λ (x : Node). IsNode tree number x) same next.is_node

    -- what the rounds of a child leave
    left : (start : NodeStart) (decision : Decision) (reached : ℕ) (child : Node) (leaves : List ℕ) → IsStartUnder case.week tree number decision start →
        HasRan case limits reached start child leaves →
        (rounds : List Round) × IsRanNode case limits reached (decision ∷ path_of tree number) node.bound node.prices child rounds × AreCounts case.week rounds leaves
    left start decision reached child leaves under ran =
        let run = ran (decision ∷ path_of tree number) under.pairs in
        let parent = under.parent node is_node in (
          run.0,
          subst (λ (x : ℕ). IsRanNode case limits reached (decision ∷ path_of tree number) x node.prices child run.0) parent.0
              (subst (λ (x : Prices). IsRanNode case limits reached (decision ∷ path_of tree number) start.bound x child run.0) parent.1 run.1),
          run.2,
        )

    turned_all : AreTurned tree (branched_at tree number cost node forcing barring) number cost node forcing barring
    turned_all = are_turned tree number cost node forcing barring is_node

    heavier : (more : List ℕ) × AreWeights case.week (branched_at tree number cost node forcing barring) more
    heavier =
        branch-weighs case.week tree s.weights number cost driver order node forcing barring s.weighed s.growing.shape is_node
        (sym (ap (λ (x : Node). x.state) same) ∙ next.open_leaf) pair.in_week.0 pair.in_week.1
        (sym (p.each driver order pair.in_week.0 pair.in_week.1) ∙ pair.free) parf parb df db

    chosen : IsChosen case limits cost tree s.runs number node driver order
    chosen = record {
      is_node = is_node;
      open_leaf = sym (ap (λ (x : Node). x.state) same) ∙ next.open_leaf;
      below = omega (arith, next.below, ap (λ (x : Node). x.bound) same);
      cheap = s.kept.cheap;
      room = room;
      next = λ j other is o l. turn j other (next.next j other is o l);
      in_week = pair.in_week;
      pick = λ run h. picked case.week tree number here count driver order run p (s.counted (pred number) run count h c) pair;
    }
      where
        turn : (j : ℕ) (other : Node) → (next.node.bound < other.bound) ⊎ ((next.node.bound ≡ other.bound) × (number ≤ j)) →
            (node.bound < other.bound) ⊎ ((node.bound ≡ other.bound) × (number ≤ j))
        turn j other (inl h) = inl (omega (arith, ap (λ (x : Node). x.bound) same))
        turn j other (inr h) = inr (sym (ap (λ (x : Node). x.bound) same) ∙ h.0, h.1)

    counted : (n : ℕ) (run : List Round) (other : List ℕ)
        (a : (rounds : List Round) × IsRanNode case limits middle (forces driver order ∷ path_of tree number) node.bound node.prices forcing rounds × AreCounts case.week rounds one)
        (b : (rounds : List Round) × IsRanNode case limits less (bars driver order ∷ path_of tree number) node.bound node.prices barring rounds × AreCounts case.week rounds two) →
        ((n < length s.runs) × (slice_get s.runs n ≡ Some run)) ⊎ (((n ≡ length s.runs) × (a.0 ≡ run)) ⊎ ((n ≡ suc (length s.runs)) × (b.0 ≡ run))) →
        ((n < length counts) × (slice_get counts n ≡ Some other)) ⊎ (((n ≡ length counts) × (one ≡ other)) ⊎ ((n ≡ suc (length counts)) × (two ≡ other))) →
        AreCounts case.week run other
    counted n run other a b (inl x) (inl y) = s.counted n run other x.1 y.1
    counted n run other a b (inr (inl x)) (inr (inl y)) =
        subst (λ (z : List ℕ). AreCounts case.week run z) y.1 (subst (λ (z : List Round). AreCounts case.week z one) x.1 a.2)
    counted n run other a b (inr (inr x)) (inr (inr y)) =
        subst (λ (z : List ℕ). AreCounts case.week run z) y.1 (subst (λ (z : List Round). AreCounts case.week z two) x.1 b.2)
    counted n run other a b (inl x) (inr (inl y)) = absurd (omega (arith, x.0, y.0, s.as_many, s.growing.all_runs))
    counted n run other a b (inl x) (inr (inr y)) = absurd (omega (arith, x.0, y.0, s.as_many, s.growing.all_runs))
    counted n run other a b (inr (inl x)) (inl y) = absurd (omega (arith, x.0, y.0, s.as_many, s.growing.all_runs))
    counted n run other a b (inr (inl x)) (inr (inr y)) = absurd (omega (arith, x.0, y.0, s.as_many, s.growing.all_runs))
    counted n run other a b (inr (inr x)) (inl y) = absurd (omega (arith, x.0, y.0, s.as_many, s.growing.all_runs))
    counted n run other a b (inr (inr x)) (inr (inl y)) = absurd (omega (arith, x.0, y.0, s.as_many, s.growing.all_runs))

    priced : (k : ℕ) (x : Node) → OneOfFour tree number cost node forcing barring k x → IsPrices case.week x.prices
    priced k x (inl c) = s.priced k x c.1
    priced k x (inr (inl c)) = subst (λ (y : Node). IsPrices case.week y.prices) c.1 (s.priced number node is_node)
    priced k x (inr (inr (inl c))) = subst (λ (y : Node). IsPrices case.week y.prices) c.1 pricef
    priced k x (inr (inr (inr c))) = subst (λ (y : Node). IsPrices case.week y.prices) c.1 priceb

-- a child of a node forces no order for two drivers
pub child-once : (week : Week) (tree : List Node) (number : ℕ) (node : Node) (decision : Decision) (pairs : Pairs) → IsTree week tree → IsNode tree number node →
    DecidesFree (path_of tree number) decision → ArePairsOf week (decision ∷ path_of tree number) pairs → ForcesOnce week pairs
child-once week tree number node decision pairs t is free p d e o ld le lo h i =
    once-path decision (path_of tree number) free (tree-once week tree t (suc number) number node (omega arith) is) d e o
    (is-forced _ _ (sym (p.each d o ld lo) ∙ h)) (is-forced _ _ (sym (p.each e o le lo) ∙ i))

-- at the next node something is Free
pub has-free : (case : Case) (limits : Limits) (plan : Plan) (cost : ℕ) (tree : List Node) (counts : List (List ℕ)) (number : ℕ) (here : Pairs) →
    IsSearching case limits plan cost tree counts → IsNextNode cost tree number → ArePairsOf case.week (path_of tree number) here → HasFreeIn case.week here
has-free case limits plan cost tree counts number here s next p =
    let run = get-below s.runs (pred number) (omega (arith, s.growing.all_runs, next.is_node.0, slice_get-lt tree (pred number) next.node next.is_node.1)) in
    let f = ((s.growing.each number next.node run.0 next.is_node run.1).2.open_leaf next.open_leaf).0 in
    (f.0, f.1, f.2, f.3, p.each f.0 f.1 f.2 f.3 ∙ f.4)
