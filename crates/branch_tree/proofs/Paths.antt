-- The path of a node is its decision and the path of its parent.
use Rattle.std.proofs.Common.{◌≡◌, ◌≢◌, ℕ, zero, suc, pred, ◌+◌, ◌≤◌, ◌<◌, Bool, true, false, List, [], ◌∷◌, ◌++◌, length, reverse, refl, ap, sym, ◌∙◌, arith, eqb, Some, slice_get, length-append}
use Rattle.std.proofs.lemmas.List.{reverse-append, reverse-reverse, length-reverse}
use Rattle.std.proofs.lemmas.Bool.Decides.{nat_tests}
use Rattle.duty_plan.specs.declared.nodes.Node.{Node}
use Rattle.duty_plan.specs.Nodes.{path_in, path_of, IsNode}
use Rattle.duty_plan.proofs.Lists.{slice_get-lt}

get-last : {X : Type 0} (xs : List X) (x y : X) (n : ℕ) → n ≡ length xs → slice_get (xs ++ x ∷ []) n ≡ Some y → x ≡ y
get-last [] x y zero e h = cc
get-last [] x y (suc n) e h = absurd (omega arith)
get-last (z ∷ xs) x y zero e h = absurd (omega arith)
get-last (z ∷ xs) x y (suc n) e h = get-last xs x y n (omega arith) h

get-partial : {X : Type 0} (xs : List X) (x y : X) (n : ℕ) → n < length xs → slice_get (xs ++ x ∷ []) n ≡ Some y → slice_get xs n ≡ Some y
get-partial [] x y n l h = absurd (omega arith)
get-partial (z ∷ xs) x y zero l h = h
get-partial (z ∷ xs) x y (suc n) l h = get-partial xs x y n (omega arith) h

skip : (x : Node) (older : List Node) (p : ℕ) → p < length older + 1 → path_in (x ∷ older) p ≡ path_in older p
skip x older p l = let e : eqb p (length older + 1) ≡ false = grind (arith, nat_tests) in rw e refl

path-newest : (nodes : List Node) (k : ℕ) (node : Node) → 1 ≤ k → slice_get (reverse nodes) (pred k) ≡ Some node → node.parent < k →
    path_in nodes k ≡ node.decision ∷ path_in nodes node.parent
path-newest [] k node one h l = cc
path-newest (x ∷ older) k node one h l =
    by_test (eqb k (length older + 1)) refl (λ g. path-newest older k node one g l)
  where
    there : slice_get (reverse older ++ x ∷ []) (pred k) ≡ Some node
    there = ap (λ (xs : List Node). slice_get xs (pred k)) (sym (reverse-append (x ∷ []) older)) ∙ h

    by_test : (b : Bool) → eqb k (length older + 1) ≡ b →
        (slice_get (reverse older) (pred k) ≡ Some node → path_in older k ≡ node.decision ∷ path_in older node.parent) →
        path_in (x ∷ older) k ≡ node.decision ∷ path_in (x ∷ older) node.parent
    by_test true e more =
        let last : k ≡ length older + 1 = grind (arith, nat_tests) in
        let same : x ≡ node = get-last (reverse older) x node (pred k) (omega (arith, length-reverse older)) there in
        let before : path_in (x ∷ older) node.parent ≡ path_in older node.parent = skip x older node.parent (omega arith) in
        rw (e, before) (ap (λ (y : Node). y.decision ∷ path_in older y.parent) same)
    by_test false e more =
        let other : k ≢ length older + 1 = grind (arith, nat_tests) in
        let small : pred k < length older =
        omega (arith, slice_get-lt (reverse older ++ x ∷ []) (pred k) node there, length-append (reverse older) (x ∷ []), length-reverse older) in
        let before : path_in (x ∷ older) node.parent ≡ path_in older node.parent = skip x older node.parent (omega arith) in
        rw (e, before) (more (get-partial (reverse older) x node (pred k) (omega (arith, length-reverse older)) there))

pub path-node : (tree : List Node) (k : ℕ) (node : Node) → IsNode tree k node → node.parent < k →
    path_of tree k ≡ node.decision ∷ path_of tree node.parent
path-node tree k node is l =
    path-newest (reverse tree) k node is.0 (ap (λ (xs : List Node). slice_get xs (pred k)) (reverse-reverse tree) ∙ is.1) l
