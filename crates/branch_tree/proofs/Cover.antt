-- No lawful plan costs less than the bound of a right outcome.
use Rattle.std.proofs.Common.{◌≡◌, ◌≢◌, ◌⊎◌, inl, inr, ℕ, zero, suc, pred, ◌+◌, ◌≤◌, ◌<◌, List, [], ◌∷◌, length, refl, ap, sym, subst, ◌∙◌, arith}
use Rattle.duty_plan.specs.declared.plans.Case.{Case}
use Rattle.duty_plan.specs.declared.nodes.Decision.{Decision}
use Rattle.duty_plan.specs.declared.nodes.Decision.TheVariants.{Root}
use Rattle.duty_plan.specs.declared.outcomes.Limits.{Limits}
use Rattle.duty_plan.specs.declared.nodes.Node.{Node}
use Rattle.duty_plan.specs.declared.nodes.NodeState.{NodeState}
use Rattle.duty_plan.specs.declared.nodes.NodeState.TheVariants.{Branched, Closed, Empty, Open, Spent}
use Rattle.duty_plan.specs.declared.outcomes.Outcome.{Outcome}
use Rattle.duty_plan.specs.declared.deciding.Pair.TheVariants.{Free}
use Rattle.duty_plan.specs.declared.deciding.Pairs.{Pairs}
use Rattle.duty_plan.specs.declared.plans.Plan.{Plan}
use Rattle.duty_plan.specs.declared.pricing.Prices.{Prices}
use Rattle.duty_plan.specs.declared.outcomes.State.{State}
use Rattle.duty_plan.specs.declared.outcomes.State.TheVariants.{Proved, OpenLabels, OpenNodes}
use Rattle.duty_plan.specs.Duties.{IsLawfulPlan, cost_of_plan, partial_of}
use Rattle.duty_plan.specs.Values.{ArePairsOf, IsPlanInside, IsPrices, decided_by, pair_at}
use Rattle.duty_plan.specs.Rounds.{Round}
use Rattle.duty_plan.specs.Nodes.{IsNode, HasChildren, path_of}
use Rattle.duty_plan.specs.Trees.{HasRun, IsRight, HasLeaf, IsState}
use Rattle.price_master.specs.Laws.{DecidesFree}
use Rattle.branch_tree.specs.Laws.{JustOne}
use Rattle.duty_plan.proofs.Lists.{slice_get-lt}
use Rattle.branch_tree.proofs.Splits.{splits}
use Rattle.price_master.proofs.Falls.{stays-inside}
use Rattle.price_master.proofs.Carried.{get-below}
use Rattle.branch_tree.proofs.Paths.{path-node}
use Rattle.branch_tree.proofs.Parents.{root-or-later, tree-parent, path-root}
use Rattle.branch_tree.proofs.RunBounds.{kept-prices, bound-below}
use Rattle.price_master.proofs.Whole.{some-none, start-prices}

state-clash : (s : State) → s ≡ OpenNodes → s ≢ Proved
state-clash s e p = cc

label-clash : (s : State) → s ≡ OpenLabels → s ≢ Proved
label-clash s e p = cc

-- where the state is not Proved, the bound is that of a leaf, and below the cost
unproved : (case : Case) (limits : Limits) (outcome : Outcome) → IsRight case limits outcome → outcome.state ≢ Proved → outcome.bound ≤ outcome.cost
unproved case limits outcome r n =
    let leaf = r.bound.attained n in
    let found = get-below r.runs (pred leaf.0) (omega (arith, slice_get-lt outcome.tree (pred leaf.0) leaf.1 leaf.2.1, r.tree.all_runs)) in
    let all = r.tree.each leaf.0 leaf.1 found.0 leaf.2 found.1 in
    by_state all.2 leaf.3 leaf.4
  where
    by_state : {k : ℕ} {node : Node} {run : List Round} → IsState case.week outcome.cost outcome.tree k node run →
        (node.state ≡ Open) ⊎ (node.state ≡ Spent) → node.bound ≡ outcome.bound → outcome.bound ≤ outcome.cost
    by_state s (inl e) b = omega (arith, (s.open_leaf e).2)
    by_state s (inr e) b = omega (arith, (s.spent e).2)

-- the same path, the same plans
same-inside : (case : Case) (path : List Decision) (a b : Pairs) (plan : Plan) → ArePairsOf case.week path a → ArePairsOf case.week path b →
    IsLawfulPlan case plan → IsPlanInside case.week a plan → IsPlanInside case.week b plan
same-inside case path a b plan pa pb lawful inside k duty e = record {
  forced = λ q l h. (inside k duty e).forced q l (pa.each k q lk l ∙ (sym (pb.each k q lk l) ∙ h));
  barred = λ q l h. (inside k duty e).barred q l (pa.each k q lk l ∙ (sym (pb.each k q lk l) ∙ h));
}
  where
    lk : k < length case.week.drivers
    lk = omega (arith, slice_get-lt plan.duties k duty e, lawful.duties)

-- the plan is inside at a node
abbrev InsideAt : Case → List Node → Plan → ℕ → Type 0
InsideAt case tree plan k = (pairs : Pairs) → ArePairsOf case.week (path_of tree k) pairs → IsPlanInside case.week pairs plan

-- what is inside a child is inside its parent
inside-parent : (case : Case) (tree : List Node) (plan : Plan) (k : ℕ) (node : Node) (pairs : Pairs) → IsNode tree k node → node.parent < k →
    DecidesFree (path_of tree node.parent) node.decision → ArePairsOf case.week (path_of tree k) pairs → IsLawfulPlan case plan →
    InsideAt case tree plan k → InsideAt case tree plan node.parent
inside-parent case tree plan k node pairs is l free p lawful inside at at_is j duty e =
    stays-inside case (path_of tree node.parent) node.decision at pairs j (partial_of duty)
    (omega (arith, slice_get-lt plan.duties j duty e, lawful.duties)) free at_is
    (subst (λ (x : List Decision). ArePairsOf case.week x pairs) (path-node tree k node is l) p) (inside pairs p j duty e)

abbrev RunOf : Case → Limits → Outcome → ℕ → Node → Type 0
RunOf case limits outcome k node = (rounds : List Round) × HasRun case limits outcome.cost outcome.tree k node rounds ×
    IsState case.week outcome.cost outcome.tree k node rounds

run-of : (case : Case) (limits : Limits) (outcome : Outcome) → IsRight case limits outcome → (k : ℕ) (node : Node) →
    IsNode outcome.tree k node → RunOf case limits outcome k node
run-of case limits outcome r k node is =
    let found = get-below r.runs (pred k) (omega (arith, slice_get-lt outcome.tree (pred k) node is.1, r.tree.all_runs)) in
    let all = r.tree.each k node found.0 is found.1 in (found.0, all.0, all.2)

-- a node's parent, where it has one
parent-of : (case : Case) (limits : Limits) (outcome : Outcome) → IsRight case limits outcome → (k : ℕ) (node : Node) → 1 < k →
    IsNode outcome.tree k node → (parent : Node) × IsNode outcome.tree node.parent parent × DecidesFree (path_of outcome.tree node.parent) node.decision
parent-of case limits outcome r k node l is = tree-parent case.week outcome.tree r.tree.shape k node l is

abbrev Holds : Case → Outcome → Plan → ℕ → Node → Type 0
Holds case outcome plan k node =
    IsPrices case.week node.prices × (InsideAt case outcome.tree plan k → node.bound ≤ cost_of_plan case plan)

-- a node's prices are within their limits, and its bound is at most the cost of a plan inside
holds : (case : Case) (limits : Limits) (outcome : Outcome) (plan : Plan) → IsRight case limits outcome → IsLawfulPlan case plan →
    (fuel k : ℕ) (node : Node) → k < fuel → IsNode outcome.tree k node → Holds case outcome plan k node
holds case limits outcome plan r lawful zero k node l is = absurd (omega arith)
holds case limits outcome plan r lawful (suc fuel) k node l is =
    by_root (root-or-later k is.0) (λ p n s i. holds case limits outcome plan r lawful fuel p n s i)
  where
    mine : RunOf case limits outcome k node
    mine = run-of case limits outcome r k node is

    from : IsPrices case.week mine.1.start.prices → (InsideAt case outcome.tree plan k → mine.1.start.bound ≤ cost_of_plan case plan) →
        Holds case outcome plan k node
    from p f = (
      kept-prices _ case _ _ _ _ _ mine.0 mine.1.run p,
      λ inside. bound-below _ case _ _ _ _ _ mine.0 plan mine.1.run p (f inside) lawful (inside mine.1.start.pairs mine.1.begins.pairs),
    )

    by_root : (k ≡ 1) ⊎ (1 < k) → ((p : ℕ) (n : Node) → p < fuel → IsNode outcome.tree p n → Holds case outcome plan p n) →
        Holds case outcome plan k node
    by_root (inl e) more =
        let at : IsNode outcome.tree 1 node = subst (λ (x : ℕ). IsNode outcome.tree x node) e is in
        let begin = mine.1.begins.root (r.tree.shape.root node at).0 in
        from (start-prices case.week mine.1.start.prices begin.1) (λ inside. omega (arith, begin.0))
    by_root (inr s) more =
        let parent = parent-of case limits outcome r k node s is in
        let range = r.tree.shape.others k node s is in
        let before = more node.parent parent.0 (omega arith) parent.1 in
        let begin = mine.1.begins.child parent.0 parent.1 in
        from (subst (λ (x : Prices). IsPrices case.week x) (sym begin.1) before.0)
        (λ inside. let low = before.1 (inside-parent case outcome.tree plan k node mine.1.start.pairs is range.1 parent.2 mine.1.begins.pairs lawful inside) in
        omega (arith, begin.0))

-- the bound of a right outcome is at most its cost
bound-cost : (case : Case) (limits : Limits) (outcome : Outcome) → IsRight case limits outcome → (s : State) → outcome.state ≡ s →
    outcome.bound ≤ outcome.cost
bound-cost case limits outcome r Proved e = omega (arith, r.bound.proved e)
bound-cost case limits outcome r OpenLabels e = unproved case limits outcome r (label-clash outcome.state e)
bound-cost case limits outcome r OpenNodes e = unproved case limits outcome r (state-clash outcome.state e)

root-inside : (case : Case) (limits : Limits) (outcome : Outcome) (plan : Plan) → IsRight case limits outcome → IsLawfulPlan case plan →
    (node : Node) → IsNode outcome.tree 1 node → InsideAt case outcome.tree plan 1
root-inside case limits outcome plan r lawful node is pairs p k duty e = record {
  forced = λ q l h. let f = free q l in cc;
  barred = λ q l h. let f = free q l in cc;
}
  where
    root : (node.parent ≡ 0) × (node.decision ≡ Root)
    root = r.tree.shape.root node is

    path : path_of outcome.tree 1 ≡ Root ∷ []
    path = path-root outcome.tree node is root

    free : (q : ℕ) → q < length case.week.orders → pair_at pairs k q ≡ Free
    free q l = p.each k q (omega (arith, slice_get-lt plan.duties k duty e, lawful.duties)) l ∙ ap (λ (ds : List Decision). decided_by ds k q) path

-- a plan inside a node costs at least the outcome's bound
descend : (case : Case) (limits : Limits) (outcome : Outcome) (plan : Plan) → IsRight case limits outcome → IsLawfulPlan case plan →
    (fuel k : ℕ) (node : Node) → length outcome.tree < k + fuel → IsNode outcome.tree k node → InsideAt case outcome.tree plan k →
    outcome.bound ≤ cost_of_plan case plan
descend case limits outcome plan r lawful zero k node l is inside =
    absurd (omega (arith, slice_get-lt outcome.tree (pred k) node is.1, is.0))
descend case limits outcome plan r lawful (suc fuel) k node l is inside =
    by_state node.state refl (λ c n s i. descend case limits outcome plan r lawful fuel c n s i)
  where
    mine : RunOf case limits outcome k node
    mine = run-of case limits outcome r k node is

    low : node.bound ≤ cost_of_plan case plan
    low = (holds case limits outcome plan r lawful (suc k) k node (omega arith) is).1 inside

    open_leaf : (node.state ≡ Open) ⊎ (node.state ≡ Spent) → outcome.state ≢ Proved → outcome.bound ≤ cost_of_plan case plan
    open_leaf e n = omega (arith, r.bound.least n k node is e, low)

    open_state : HasLeaf Open outcome.tree → outcome.state ≢ Proved
    open_state leaf = state-clash outcome.state (r.state.open_nodes.1 leaf)

    spent_state : node.state ≡ Spent → outcome.state ≢ Proved
    spent_state e p =
        label-clash outcome.state (r.state.open_labels.1 ((λ leaf. open_state leaf p), (k, node, is, e))) p

    at_child : (c : ℕ) (child : Node) → IsNode outcome.tree c child → child.parent ≡ k → k < c
    at_child c child there e = by_root (root-or-later c there.0)
      where
        by_root : (c ≡ 1) ⊎ (1 < c) → k < c
        by_root (inl one) =
            let at : IsNode outcome.tree 1 child = subst (λ (x : ℕ). IsNode outcome.tree x child) one there in
            absurd (omega (arith, (r.tree.shape.root child at).0, is.0))
        by_root (inr s) = omega (arith, r.tree.shape.others c child s there)

    -- the pairs of a child, by its decision
    child-pairs : (c : ℕ) (child : Node) (d : Decision) (pairs : Pairs) (there : IsNode outcome.tree c child) → child.parent ≡ k → child.decision ≡ d →
        ArePairsOf case.week (path_of outcome.tree c) pairs → ArePairsOf case.week (d ∷ path_of outcome.tree k) pairs
    child-pairs c child d pairs there e is_d p =
        let path : path_of outcome.tree c ≡ d ∷ path_of outcome.tree k =
        path-node outcome.tree c child there (omega (arith, at_child c child there e))
        ∙ (ap (λ (x : Decision). x ∷ path_of outcome.tree child.parent) is_d ∙ ap (λ (n : ℕ). d ∷ path_of outcome.tree n) e) in
        subst (λ (x : List Decision). ArePairsOf case.week x pairs) path p

    by_state : (s : NodeState) → node.state ≡ s → ((c : ℕ) (n : Node) → length outcome.tree < c + fuel → IsNode outcome.tree c n →
        InsideAt case outcome.tree plan c → outcome.bound ≤ cost_of_plan case plan) → outcome.bound ≤ cost_of_plan case plan
    by_state Open e more = open_leaf (inl e) (open_state (k, node, is, e))
    by_state Spent e more = open_leaf (inr e) (spent_state e)
    by_state Closed e more = omega (arith, (mine.2.closed e).1, low, bound-cost case limits outcome r outcome.state refl)
    by_state Empty e more =
        let last = mine.2.empty e in
        let none = some-none _ case mine.1.start.pairs last.0.prices last.0.answers (mine.1.run.each _ last.0 last.1) last.2 in
        let at : none.0 < length plan.duties = omega (arith, slice_get-lt last.0.answers none.0 _ none.1, (mine.1.run.each _ last.0 last.1).drivers, lawful.duties) in
        let duty = get-below plan.duties none.0 at in
        absurd (none.2 duty.0 (record { lawful = lawful.lawful none.0 duty.0 duty.1; inside = inside mine.1.start.pairs mine.1.begins.pairs none.0 duty.0 duty.1 }))
    by_state Branched e more =
        let h = r.tree.shape.branched k node is e in
        let f = run-of case limits outcome r h.child h.forcing h.is_forcing in
        let b = run-of case limits outcome r (h.child + 1) h.barring h.is_barring in
        let pf = child-pairs h.child h.forcing _ f.1.start.pairs h.is_forcing h.parents.0 h.forces_it f.1.begins.pairs in
        let pb = child-pairs (h.child + 1) h.barring _ b.1.start.pairs h.is_barring h.parents.1 h.bars_it b.1.begins.pairs in
        let free : pair_at mine.1.start.pairs h.driver h.order ≡ Free = mine.1.begins.pairs.each h.driver h.order h.in_week.0 h.in_week.1 ∙ h.free in
        by_child h f b
        (splits case (path_of outcome.tree k) h.driver h.order mine.1.start.pairs f.1.start.pairs b.1.start.pairs plan h.in_week.0 h.in_week.1 free
        mine.1.begins.pairs pf pb lawful (inside mine.1.start.pairs mine.1.begins.pairs))
      where
        by_child : (h : HasChildren case.week outcome.tree k) (f : RunOf case limits outcome h.child h.forcing) (b : RunOf case limits outcome (h.child + 1) h.barring) →
            JustOne (IsPlanInside case.week f.1.start.pairs plan) (IsPlanInside case.week b.1.start.pairs plan) → outcome.bound ≤ cost_of_plan case plan
        by_child h f b (inl g) =
            more h.child h.forcing (omega (arith, at_child h.child h.forcing h.is_forcing h.parents.0)) h.is_forcing
            (λ pairs p. same-inside case (path_of outcome.tree h.child) f.1.start.pairs pairs plan f.1.begins.pairs p lawful g.0)
        by_child h f b (inr g) =
            more (h.child + 1) h.barring (omega (arith, at_child (h.child + 1) h.barring h.is_barring h.parents.1)) h.is_barring
            (λ pairs p. same-inside case (path_of outcome.tree (h.child + 1)) b.1.start.pairs pairs plan b.1.begins.pairs p lawful g.0)

pub no_cheaper : (case : Case) (limits : Limits) (outcome : Outcome) (plan : Plan) → IsRight case limits outcome → IsLawfulPlan case plan →
    outcome.bound ≤ cost_of_plan case plan
no_cheaper case limits outcome plan r lawful =
    let first = get-below outcome.tree 0 r.tree.shape.some in
    let root : IsNode outcome.tree 1 first.0 = (omega arith, first.1) in
    descend case limits outcome plan r lawful (length outcome.tree) 1 first.0 (omega arith) root
    (root-inside case limits outcome plan r lawful first.0 root)
