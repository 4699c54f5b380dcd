-- The nodes of a tree where one node was branched: the other ones as they were, that one turned, and its children.
use Rattle.std.proofs.Common.{◌≡◌, ◌≢◌, ◌⊎◌, inl, inr, ℕ, pred, ◌+◌, ◌<◌, ◌≤◌, List, [], ◌∷◌, ◌++◌, length, set, refl, ap, sym, subst, ◌∙◌, arith, Some, slice_get, length-append}
use Rattle.week_book.specs.declared.weeks.Week.{Week}
use Rattle.duty_plan.specs.declared.nodes.Node.{Node}
use Rattle.duty_plan.specs.declared.nodes.NodeState.TheVariants.{Branched, Open}
use Rattle.duty_plan.specs.Nodes.{IsNode, IsTree}
use Rattle.duty_plan.proofs.Lists.{slice_get-lt}
use Rattle.price_master.proofs.Carried.{get-below}
use Rattle.price_master.proofs.Lookups.{get-set_same, get-set_other, length-set_lem, get-before, get-after, at-most, same-or-not}
use Rattle.branch_tree.specs.Growth.{turned, branched_at}
use Rattle.branch_tree.proofs.Sameness.{IsLike, Extends, one-node, node-below, like-back, tree-earlier}

pub alike : (node : Node) → IsLike node node
alike node = record { parent = refl; decision = refl; prices = refl; bound = refl }

-- the nodes of the tree where that node was branched
pub record AreTurned (tree new : List Node) (number : ℕ) (cost : ℕ) (node forcing barring : Node) : Type 0 where
  pub here : IsNode tree number node
  pub is_turned : IsNode new number (turned cost node)
  pub is_forcing : IsNode new (length tree + 1) forcing
  pub is_barring : IsNode new (length tree + 1 + 1) barring
  pub others : (k : ℕ) (x : Node) → k ≢ number → IsNode tree k x → IsNode new k x
  pub size : length new ≡ length tree + 2

pub are_turned : (tree : List Node) (number cost : ℕ) (node forcing barring : Node) → IsNode tree number node →
    AreTurned tree (branched_at tree number cost node forcing barring) number cost node forcing barring
are_turned tree number cost node forcing barring is = record {
  here = is;
  is_turned = (is.0, get-before changed (forcing ∷ barring ∷ []) (pred number) (omega (arith, size, low)) ∙ get-set_same tree (pred number) (turned cost node) low);
  is_forcing = (omega arith, get-after changed (forcing ∷ barring ∷ []) (pred (length tree + 1)) 0 (omega (arith, size)));
  is_barring = (omega arith, get-after changed (forcing ∷ barring ∷ []) (pred (length tree + 1 + 1)) 1 (omega (arith, size)));
  others = λ k x n at. (at.0, there k x n at);
  size = let two : length (forcing ∷ barring ∷ []) ≡ 2 = omega arith in omega (arith, size, length-append changed (forcing ∷ barring ∷ []));
}
  where
    changed : List Node
    changed = set tree (pred number) (turned cost node)

    low : pred number < length tree
    low = slice_get-lt tree (pred number) node is.1

    size : length (set tree (pred number) (turned cost node)) ≡ length tree
    size = length-set_lem tree (pred number) (turned cost node)

    there : (k : ℕ) (x : Node) → k ≢ number → IsNode tree k x →
        slice_get (set tree (pred number) (turned cost node) ++ forcing ∷ barring ∷ []) (pred k) ≡ Some x
    there k x n at =
        let other : pred k ≢ pred number = λ e. n (omega (arith, at.0, is.0)) in
        get-before (set tree (pred number) (turned cost node)) (forcing ∷ barring ∷ []) (pred k) (omega (arith, size, slice_get-lt tree (pred k) x at.1))
        ∙ (get-set_other tree (pred number) (pred k) (turned cost node) other ∙ at.1)

-- a node of the newer tree
abbrev pub OneOfFour : List Node → ℕ → ℕ → Node → Node → Node → ℕ → Node → Type 0
OneOfFour tree number cost node forcing barring k x =
    ((k ≢ number) × IsNode tree k x) ⊎ (((k ≡ number) × (turned cost node ≡ x)) ⊎
    (((k ≡ length tree + 1) × (forcing ≡ x)) ⊎ ((k ≡ length tree + 1 + 1) × (barring ≡ x))))

pub turned-cases : (tree new : List Node) (number cost : ℕ) (node forcing barring : Node) → AreTurned tree new number cost node forcing barring →
    (k : ℕ) (x : Node) → IsNode new k x → OneOfFour tree number cost node forcing barring k x
turned-cases tree new number cost node forcing barring t k x is = by_size (at-most k (length tree))
  where
    at : (n : ℕ) (y : Node) → k ≡ n → IsNode new n y → y ≡ x
    at n y e h = one-node new k y x (subst (λ (m : ℕ). IsNode new m y) (sym e) h) is

    older : k ≤ length tree → (k ≡ number) ⊎ (k ≢ number) → OneOfFour tree number cost node forcing barring k x
    older l (inl e) = inr (inl (e, at number (turned cost node) e t.is_turned))
    older l (inr n) = inl (n, subst (λ (y : Node). IsNode tree k y) (one-node new k found.0 x (t.others k found.0 n found.1) is) found.1)
      where
        found : (y : Node) × IsNode tree k y
        found = below-node tree k is.0 l
          where
            below-node : (tree : List Node) (k : ℕ) → 1 ≤ k → k ≤ length tree → (y : Node) × IsNode tree k y
            below-node tree k one l = let h = get-below tree (pred k) (omega arith) in (h.0, (one, h.1))

    newer : length tree < k → (k ≡ length tree + 1) ⊎ (k ≢ length tree + 1) → OneOfFour tree number cost node forcing barring k x
    newer l (inl e) = inr (inr (inl (e, at (length tree + 1) forcing e t.is_forcing)))
    newer l (inr n) =
        let e : k ≡ length tree + 1 + 1 = omega (arith, node-below new k x is, t.size) in
        inr (inr (inr (e, at (length tree + 1 + 1) barring e t.is_barring)))

    by_size : (k ≤ length tree) ⊎ (length tree < k) → OneOfFour tree number cost node forcing barring k x
    by_size (inl l) = older l (same-or-not k number)
    by_size (inr l) = newer l (same-or-not k (length tree + 1))

-- a newer node is a child of the branched one
pub turned-fresh : (tree new : List Node) (number cost : ℕ) (node forcing barring : Node) → AreTurned tree new number cost node forcing barring →
    forcing.parent ≡ number → barring.parent ≡ number → (k : ℕ) (x : Node) → length tree < k → IsNode new k x → x.parent ≡ number
turned-fresh tree new number cost node forcing barring t pf pb k x l is = by_case (turned-cases tree new number cost node forcing barring t k x is)
  where
    by_case : OneOfFour tree number cost node forcing barring k x → x.parent ≡ number
    by_case (inl c) = absurd (omega (arith, node-below tree k x c.1))
    by_case (inr (inl c)) = absurd (omega (arith, node-below tree number node t.here, c.0))
    by_case (inr (inr (inl c))) = sym (ap (λ (y : Node). y.parent) c.1) ∙ pf
    by_case (inr (inr (inr c))) = sym (ap (λ (y : Node). y.parent) c.1) ∙ pb

pub turned-extends : (tree new : List Node) (number cost : ℕ) (node forcing barring : Node) → AreTurned tree new number cost node forcing barring →
    Extends tree new
turned-extends tree new number cost node forcing barring t k x is = by_number (same-or-not k number)
  where
    by_number : (k ≡ number) ⊎ (k ≢ number) → (other : Node) × IsNode new k other × IsLike x other
    by_number (inl e) =
        let same : node ≡ x = one-node tree number node x t.here (subst (λ (m : ℕ). IsNode tree m x) e is) in (
          turned cost node,
          subst (λ (m : ℕ). IsNode new m (turned cost node)) (sym e) t.is_turned,
          subst (λ (y : Node). IsLike y (turned cost node)) same (record { parent = refl; decision = refl; prices = refl; bound = refl }),
        )
    by_number (inr n) = (x, t.others k x n is, alike x)

-- what was branched before stays as it was
pub branched-stays : (tree new : List Node) (number cost : ℕ) (node forcing barring : Node) → AreTurned tree new number cost node forcing barring →
    node.state ≡ Open → (k : ℕ) (x : Node) → IsNode tree k x → x.state ≡ Branched → IsNode new k x
branched-stays tree new number cost node forcing barring t open_leaf k x is e = t.others k x other is
  where
    other : k ≢ number
    other same =
        let that : node ≡ x = one-node tree number node x t.here (subst (λ (m : ℕ). IsNode tree m x) same is) in
        let states = ap (λ (y : Node). y.state) that in cc

-- an older node's parent was branched before
pub record HasOldParent (tree : List Node) (k : ℕ) (x parent : Node) : Type 0 where
  pub node : Node
  pub is_node : IsNode tree k node
  pub like : IsLike node x
  pub is_parent : IsNode tree node.parent parent
  pub branched : parent.state ≡ Branched

pub old-parent : (week : Week) (tree new : List Node) (number cost : ℕ) (node forcing barring : Node) → IsTree week tree →
    AreTurned tree new number cost node forcing barring → node.state ≡ Open → (k : ℕ) (x parent : Node) → k ≤ length tree →
    IsNode new k x → IsNode new x.parent parent → HasOldParent tree k x parent
old-parent week tree new number cost node forcing barring tree_is t open_leaf k x parent l is at =
    let ext = turned-extends tree new number cost node forcing barring t in
    let back = like-back tree new ext k x is l in
    let low : back.0.parent < k = tree-earlier week tree tree_is k back.0 back.1 in
    let there : IsNode new back.0.parent parent = subst (λ (m : ℕ). IsNode new m parent) back.2.parent at in
    let older = like-back tree new ext back.0.parent parent there (omega arith) in
    let branched = tree_is.parents k back.0 older.0 back.1 older.1 in
    let stays = branched-stays tree new number cost node forcing barring t open_leaf back.0.parent older.0 older.1 branched in
    let same : older.0 ≡ parent = one-node new back.0.parent older.0 parent stays there in record {
      node = back.0;
      is_node = back.1;
      like = back.2;
      is_parent = subst (λ (y : Node). IsNode tree back.0.parent y) same older.1;
      branched = sym (ap (λ (y : Node). y.state) same) ∙ branched;
    }
