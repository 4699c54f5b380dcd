-- The weights of a tree's nodes: of its root, and after a branching.
use Rattle.std.proofs.Common.{◌≡◌, ◌≢◌, inl, inr, ℕ, zero, suc, pred, ◌+◌, ◌*◌, ◌^◌, ◌<◌, ◌≤◌, List, [], ◌∷◌, ◌++◌, length, set, get_or, refl, ap, sym, subst, ◌∙◌, arith, Some, slice_get, length-append}
use Rattle.std.specs.List.{sum_by}
use Rattle.std.proofs.Math.Nat.{pow-suc}
use Rattle.std.proofs.Math.Pow.{pow_mono}
use Rattle.std.proofs.lemmas.List.Sums.{sum_by-append, sum_by-cons, sum_by-set}
use Rattle.std.proofs.lemmas.Nat.{pow_pos}
use Rattle.std.proofs.lemmas.Option.{get_or_from_slice_get}
use Rattle.week_book.specs.declared.weeks.Week.{Week}
use Rattle.duty_plan.specs.declared.nodes.Decision.{Decision}
use Rattle.duty_plan.specs.declared.nodes.Decision.TheVariants.{Root, Forced as forces, Barred as bars}
use Rattle.duty_plan.specs.declared.nodes.Node.{Node}
use Rattle.duty_plan.specs.declared.nodes.NodeState.TheVariants.{Branched, Open}
use Rattle.duty_plan.specs.declared.deciding.Pair.TheVariants.{Free}
use Rattle.duty_plan.specs.Values.{decided_by}
use Rattle.duty_plan.specs.Nodes.{IsNode, IsTree, path_of}
use Rattle.duty_plan.proofs.Lists.{slice_get-lt}
use Rattle.price_master.proofs.Carried.{get-below}
use Rattle.price_master.proofs.Lookups.{get-after, get-before, get-set_other, length-set_lem}
use Rattle.branch_tree.specs.Growth.{branched_at}
use Rattle.branch_tree.specs.Reaching.{AreWeights, free_pairs, leaf_count}
use Rattle.branch_tree.proofs.FreePairs.{fewer-barred, fewer-forced, free-all}
use Rattle.branch_tree.proofs.Paths.{path-node}
use Rattle.branch_tree.proofs.Sameness.{node-below, path-like}
use Rattle.branch_tree.proofs.Turning.{AreTurned, OneOfFour, are_turned, turned-cases, turned-extends}

leaf-some : (w : ℕ) → 1 ≤ w → leaf_count w ≡ 1
leaf-some zero l = absurd (omega arith)
leaf-some (suc w) l = refl

pub leaf-le : (w : ℕ) → leaf_count w ≤ w
leaf-le zero = omega arith
leaf-le (suc w) = omega arith

pub leaf-one : (w : ℕ) → leaf_count w ≤ 1
leaf-one zero = omega arith
leaf-one (suc w) = omega arith

one-pow : (k : ℕ) → 1 ≤ 2 ^ k
one-pow k = let low = pow_pos k in omega arith

halves : (f a b : ℕ) → a + 1 ≤ f → b + 1 ≤ f → 2 ^ a + 2 ^ b ≤ 2 ^ f
halves f a b la lb =
    let one : 2 ^ suc a ≤ 2 ^ f = pow_mono (omega arith) in
    let two : 2 ^ suc b ≤ 2 ^ f = pow_mono (omega arith) in
    let sa : 2 ^ suc a ≡ 2 ^ a * 2 = pow-suc 2 a in
    let sb : 2 ^ suc b ≡ 2 ^ b * 2 = pow-suc 2 b in
    omega arith

-- the root alone
pub root-weighs : (week : Week) (node : Node) → path_of (node ∷ []) 1 ≡ Root ∷ [] → AreWeights week (node ∷ []) (2 ^ free_pairs week (Root ∷ []) ∷ [])
root-weighs week node path = record {
  as_many = refl;
  sum = let low : 2 ^ free_pairs week (Root ∷ []) ≤ 2 ^ (length week.drivers * length week.orders) = pow_mono (free-all week (Root ∷ [])) in
      omega (arith, low, sum_by-cons (λ (w : ℕ). w) (2 ^ free_pairs week (Root ∷ [])) []);
  leaves = omega (arith, leaf-some (2 ^ free_pairs week (Root ∷ [])) (one-pow (free_pairs week (Root ∷ []))), sum_by-cons leaf_count (2 ^ free_pairs week (Root ∷ [])) []);
  each = λ k other w is live h. each k other w is h;
}
  where
    each : (k : ℕ) (other : Node) (w : ℕ) → IsNode (node ∷ []) k other → slice_get (2 ^ free_pairs week (Root ∷ []) ∷ []) (pred k) ≡ Some w →
        2 ^ free_pairs week (path_of (node ∷ []) k) ≤ w
    each zero other w is h = absurd (omega (arith, is.0))
    each (suc zero) other w is h =
        let its : 2 ^ free_pairs week (Root ∷ []) ≡ w = cc in
        let same : 2 ^ free_pairs week (path_of (node ∷ []) 1) ≡ 2 ^ free_pairs week (Root ∷ []) = ap (λ (ds : List Decision). 2 ^ free_pairs week ds) path in
        omega arith
    each (suc (suc k)) other w is h = let there = is.1 in cc

-- ---- after a branching

abbrev weights_at : List ℕ → ℕ → ℕ → ℕ → List ℕ
weights_at weights n one two = set weights n 0 ++ one ∷ two ∷ []

sum-at : (f : ℕ → ℕ) (weights : List ℕ) (n one two w : ℕ) → slice_get weights n ≡ Some w →
    sum_by f (weights_at weights n one two) + f w ≡ sum_by f weights + f 0 + (f one + f two)
sum-at f weights n one two w h =
    let l : n < length weights = slice_get-lt weights n w h in
    let read : f (get_or weights n 0) ≡ f w = ap f (get_or_from_slice_get weights n w 0 h) in
    omega (
      arith,
      read,
      sum_by-set f weights n 0 0 l,
      sum_by-append f (set weights n 0) (one ∷ two ∷ []),
      sum_by-cons f one (two ∷ []),
      sum_by-cons f two [],
    )

pub branch-weighs : (week : Week) (tree : List Node) (weights : List ℕ) (number cost driver order : ℕ) (node forcing barring : Node) → AreWeights week tree weights →
    IsTree week tree → IsNode tree number node → node.state ≡ Open → driver < length week.drivers → order < length week.orders →
    decided_by (path_of tree number) driver order ≡ Free → forcing.parent ≡ number → barring.parent ≡ number → forcing.decision ≡ forces driver order →
    barring.decision ≡ bars driver order → (more : List ℕ) × AreWeights week (branched_at tree number cost node forcing barring) more
branch-weighs week tree weights number cost driver order node forcing barring a t is opened ld lo free parf parb df db =
    let found = get-below weights (pred number) (omega (arith, a.as_many, slice_get-lt tree (pred number) node is.1)) in
    let path = path_of tree number in
    let low : 2 ^ free_pairs week path ≤ found.0 = a.each number node found.0 is (λ e. let z : Branched ≡ Open = sym e ∙ opened in cc) found.1 in
    let halved = halves (free_pairs week path) (free_pairs week (forces driver order ∷ path)) (free_pairs week (bars driver order ∷ path))
    (fewer-forced week path driver order ld lo free) (fewer-barred week path driver order ld lo free) in
    let one = 2 ^ free_pairs week (forces driver order ∷ path) in
    let two = 2 ^ free_pairs week (bars driver order ∷ path) in
    let some : 1 ≤ found.0 = omega (arith, low, one-pow (free_pairs week path)) in (
      weights_at weights (pred number) one two,
      record {
        as_many = omega (arith, a.as_many, turned_all.size, length-set_lem weights (pred number) 0, length-append (set weights (pred number) 0) (one ∷ two ∷ []));
        sum = omega (arith, a.sum, low, halved, sum-at (λ (w : ℕ). w) weights (pred number) one two found.0 found.1);
        leaves = omega (
          arith,
          a.leaves,
          turned_all.size,
          leaf-some found.0 some,
          leaf-some one (one-pow (free_pairs week (forces driver order ∷ path))),
          leaf-some two (one-pow (free_pairs week (bars driver order ∷ path))),
          sum-at leaf_count weights (pred number) one two found.0 found.1,
        );
        each = λ k x w at live h. each k x w live h (turned-cases tree (branched_at tree number cost node forcing barring) number cost node forcing barring turned_all k x at);
      },
    )
  where
    turned_all : AreTurned tree (branched_at tree number cost node forcing barring) number cost node forcing barring
    turned_all = are_turned tree number cost node forcing barring is

    same_path : (k : ℕ) → k ≤ length tree → path_of (branched_at tree number cost node forcing barring) k ≡ path_of tree k
    same_path k l =
        path-like week tree (branched_at tree number cost node forcing barring) t
        (turned-extends tree (branched_at tree number cost node forcing barring) number cost node forcing barring turned_all) k l

    child : (k : ℕ) (x : Node) (decision : Decision) → IsNode (branched_at tree number cost node forcing barring) k x → length tree < k → x.parent ≡ number →
        x.decision ≡ decision → path_of (branched_at tree number cost node forcing barring) k ≡ decision ∷ path_of tree number
    child k x decision at l p d =
        let below : number ≤ length tree = node-below tree number node is in
        path-node (branched_at tree number cost node forcing barring) k x at (omega (arith, below))
        ∙ (ap (λ (y : Decision). y ∷ path_of (branched_at tree number cost node forcing barring) x.parent) d
        ∙ (ap (λ (m : ℕ). decision ∷ path_of (branched_at tree number cost node forcing barring) m) p ∙ ap (λ (ds : List Decision). decision ∷ ds) (same_path number below)))

    fresh : (k : ℕ) (x : Node) (decision : Decision) (w v : ℕ) → IsNode (branched_at tree number cost node forcing barring) k x → length tree < k → x.parent ≡ number →
        x.decision ≡ decision → v ≡ 2 ^ free_pairs week (decision ∷ path_of tree number) → v ≡ w →
        2 ^ free_pairs week (path_of (branched_at tree number cost node forcing barring) k) ≤ w
    fresh k x decision w v at l p d its same =
        let path : 2 ^ free_pairs week (path_of (branched_at tree number cost node forcing barring) k) ≡ 2 ^ free_pairs week (decision ∷ path_of tree number) =
        ap (λ (ds : List Decision). 2 ^ free_pairs week ds) (child k x decision at l p d) in
        omega arith

    each : (k : ℕ) (x : Node) (w : ℕ) → x.state ≢ Branched →
        slice_get (weights_at weights (pred number) (2 ^ free_pairs week (forces driver order ∷ path_of tree number)) (2 ^ free_pairs week (bars driver order ∷ path_of tree number))) (pred k) ≡ Some w →
        OneOfFour tree number cost node forcing barring k x → 2 ^ free_pairs week (path_of (branched_at tree number cost node forcing barring) k) ≤ w
    each k x w live h (inl c) =
        let l : pred k < length weights = omega (arith, a.as_many, slice_get-lt tree (pred k) x c.1.1) in
        let other : pred k ≢ pred number = λ e. c.0 (omega (arith, c.1.0, is.0)) in
        let there : slice_get weights (pred k) ≡ Some w =
        sym (get-set_other weights (pred number) (pred k) 0 other) ∙
        (sym (get-before (set weights (pred number) 0) (2 ^ free_pairs week (forces driver order ∷ path_of tree number) ∷ 2 ^ free_pairs week (bars driver order ∷ path_of tree number) ∷ []) (pred k) (omega (arith, l, length-set_lem weights (pred number) 0))) ∙ h) in
        let low : 2 ^ free_pairs week (path_of tree k) ≤ w = a.each k x w c.1 live there in
        let path : 2 ^ free_pairs week (path_of (branched_at tree number cost node forcing barring) k) ≡ 2 ^ free_pairs week (path_of tree k) =
        ap (λ (ds : List Decision). 2 ^ free_pairs week ds) (same_path k (node-below tree k x c.1)) in
        omega arith
    each k x w live h (inr (inl c)) = absurd (live (sym (ap (λ (y : Node). y.state) c.1)))
    each k x w live h (inr (inr (inl c))) =
        let at : IsNode (branched_at tree number cost node forcing barring) k x =
        subst (λ (y : Node). IsNode (branched_at tree number cost node forcing barring) k y) c.1
        (subst (λ (m : ℕ). IsNode (branched_at tree number cost node forcing barring) m forcing) (sym c.0) turned_all.is_forcing) in
        let place : pred k ≡ length (set weights (pred number) 0) + 0 = omega (arith, c.0, a.as_many, length-set_lem weights (pred number) 0) in
        let mine = get-after (set weights (pred number) 0) (2 ^ free_pairs week (forces driver order ∷ path_of tree number) ∷ 2 ^ free_pairs week (bars driver order ∷ path_of tree number) ∷ []) (pred k) 0 place in
        let same : 2 ^ free_pairs week (forces driver order ∷ path_of tree number) ≡ w = let both = sym mine ∙ h in cc in
        fresh k x (forces driver order) w (2 ^ free_pairs week (forces driver order ∷ path_of tree number)) at (omega (arith, c.0))
        (sym (ap (λ (y : Node). y.parent) c.1) ∙ parf) (sym (ap (λ (y : Node). y.decision) c.1) ∙ df) refl same
    each k x w live h (inr (inr (inr c))) =
        let at : IsNode (branched_at tree number cost node forcing barring) k x =
        subst (λ (y : Node). IsNode (branched_at tree number cost node forcing barring) k y) c.1
        (subst (λ (m : ℕ). IsNode (branched_at tree number cost node forcing barring) m barring) (sym c.0) turned_all.is_barring) in
        let place : pred k ≡ length (set weights (pred number) 0) + 1 = omega (arith, c.0, a.as_many, length-set_lem weights (pred number) 0) in
        let mine = get-after (set weights (pred number) 0) (2 ^ free_pairs week (forces driver order ∷ path_of tree number) ∷ 2 ^ free_pairs week (bars driver order ∷ path_of tree number) ∷ []) (pred k) 1 place in
        let same : 2 ^ free_pairs week (bars driver order ∷ path_of tree number) ≡ w = let both = sym mine ∙ h in cc in
        fresh k x (bars driver order) w (2 ^ free_pairs week (bars driver order ∷ path_of tree number)) at (omega (arith, c.0))
        (sym (ap (λ (y : Node). y.parent) c.1) ∙ parb) (sym (ap (λ (y : Node). y.decision) c.1) ∙ db) refl same
