-- From a node up to the root, one decision after another; and the cells of pairs.
use Rattle.std.proofs.Common.{◌≡◌, ◌≢◌, ◌⊎◌, inl, inr, ◌||◌, ℕ, pred, ◌+◌, ◌-◌, ◌*◌, ◌/◌, ◌%◌, ◌≤◌, ◌<◌, Bool, true, false, List, [], ◌∷◌, ◌++◌, length, get_or, reverse, refl, ap, sym, ◌∙◌, arith, Some, slice_get, length-append}
use Rattle.std.proofs.lemmas.Option.{slice_get_read}
use Rattle.std.proofs.lemmas.Nat.{div-mul-add, mod-mul-add, mul-le}
use Rattle.duty_plan.specs.declared.nodes.Decision.{Decision}
use Rattle.duty_plan.specs.declared.nodes.Decision.TheVariants.{Root, Forced as forces, Barred as bars}
use Rattle.duty_plan.specs.declared.nodes.Node.{Node}
use Rattle.duty_plan.specs.declared.deciding.Pair.{Pair}
use Rattle.duty_plan.specs.declared.deciding.Pair.TheVariants.{Free}
use Rattle.duty_plan.specs.Values.{forced_by, barred_by, decided_by}
use Rattle.duty_plan.specs.Nodes.{path_of, IsNode}
use Rattle.price_master.proofs.Lookups.{same-or-not}
use Rattle.branch_tree.specs.Paths.{HasEarlierParents, forces_pair, bars_pair, pair_of}
use Rattle.branch_tree.proofs.Paths.{path-node}
use Rattle.branch_tree.proofs.Parents.{path-zero}
use Rattle.std.proofs.Math.ListN.{get_or-append}
use Rattle.std.proofs.Math.Seq.{get_or-append_seam}

forced-step : (d o : ℕ) (decision : Decision) (rest : List Decision) → forced_by d o (decision ∷ rest) ≡ (forces_pair d o decision || forced_by d o rest)
forced-step d o Root rest = refl
forced-step d o (forces x y) rest = refl
forced-step d o (bars x y) rest = refl

barred-step : (d o : ℕ) (decision : Decision) (rest : List Decision) → barred_by d o (decision ∷ rest) ≡ (bars_pair d o decision || barred_by d o rest)
barred-step d o Root rest = refl
barred-step d o (forces x y) rest = refl
barred-step d o (bars x y) rest = refl

or-assoc : (a b c : Bool) → (a || (b || c)) ≡ ((a || b) || c)
or-assoc true b c = refl
or-assoc false b c = refl

-- what the walk down a path knows when it is at a node on it
pub record IsWalked (tree : List Node) (path : List Decision) (driver order at : ℕ) (forced barred : Bool) : Type 0 where
  pub below : at ≤ length tree
  pub forced_so_far : forced_by driver order path ≡ (forced || forced_by driver order (path_of tree at))
  pub barred_so_far : barred_by driver order path ≡ (barred || barred_by driver order (path_of tree at))

-- a walk begins with one decision, above the path of a node
pub walk-begins : (tree : List Node) (decision : Decision) (driver order node : ℕ) (f b : Bool) → node ≤ length tree → f ≡ forces_pair driver order decision →
    b ≡ bars_pair driver order decision → IsWalked tree (decision ∷ path_of tree node) driver order node f b
walk-begins tree decision driver order node f b l ef eb = record {
  below = l;
  forced_so_far = forced-step driver order decision (path_of tree node) ∙ ap (λ x. x || forced_by driver order (path_of tree node)) (sym ef);
  barred_so_far = barred-step driver order decision (path_of tree node) ∙ ap (λ x. x || barred_by driver order (path_of tree node)) (sym eb);
}

pub walk-on : (tree : List Node) (path : List Decision) (driver order at : ℕ) (forced barred f b : Bool) (step : Node) → HasEarlierParents tree →
    IsWalked tree path driver order at forced barred → IsNode tree at step → f ≡ (forced || forces_pair driver order step.decision) →
    b ≡ (barred || bars_pair driver order step.decision) → IsWalked tree path driver order step.parent f b
walk-on tree whole driver order at forced barred f b step early w is ef eb =
    let low = early at step is in
    let path : path_of tree at ≡ step.decision ∷ path_of tree step.parent = path-node tree at step is low in record {
      below = omega (arith, w.below);
      forced_so_far =
          w.forced_so_far
          ∙ (ap (λ ds. forced || forced_by driver order ds) path
          ∙ (ap (λ x. forced || x) (forced-step driver order step.decision (path_of tree step.parent))
          ∙ (or-assoc forced (forces_pair driver order step.decision) (forced_by driver order (path_of tree step.parent))
          ∙ ap (λ x. x || forced_by driver order (path_of tree step.parent)) (sym ef))));
      barred_so_far =
          w.barred_so_far
          ∙ (ap (λ ds. barred || barred_by driver order ds) path
          ∙ (ap (λ x. barred || x) (barred-step driver order step.decision (path_of tree step.parent))
          ∙ (or-assoc barred (bars_pair driver order step.decision) (barred_by driver order (path_of tree step.parent))
          ∙ ap (λ x. x || barred_by driver order (path_of tree step.parent)) (sym eb))));
    }

-- a cell among all
pub cell-at : (f : ℕ → ℕ → Pair) (cells : List Pair) (drivers orders d o : ℕ) → d < drivers → o < orders →
    ((k : ℕ) → k < drivers * orders → get_or cells k Free ≡ f (k / orders) (k % orders)) → get_or cells (d * orders + o) Free ≡ f d o
cell-at f cells drivers orders d o ld lo at =
    let rows : (d + 1) * orders ≤ drivers * orders = mul-le (d + 1) orders drivers orders (omega arith) (omega arith) in
    let low : d * orders + o < drivers * orders = omega arith in
    at (d * orders + o) low ∙ (ap (λ n. f n ((d * orders + o) % orders)) (div-mul-add d orders o lo) ∙ ap (λ n. f d n) (mod-mul-add d orders o lo))

-- the node at a number, as code reads it
pub node-at : (tree : List Node) (at : ℕ) (step : Node) → 1 ≤ at → at ≤ length tree → step ≡ get_or tree (at - 1) step → IsNode tree at step
node-at tree at step one l e =
    let n : at - 1 ≡ pred at = omega arith in
    (one, slice_get_read tree (length tree) (pred at) step refl (omega arith) (e ∙ ap (λ k. get_or tree k step) n))

or-none : (b : Bool) → (b || false) ≡ b
or-none true = refl
or-none false = refl

-- above the root nothing is decided
pub walked-all : (tree : List Node) (path : List Decision) (driver order at : ℕ) (forced barred : Bool) → IsWalked tree path driver order at forced barred → at ≡ 0 →
    pair_of forced barred ≡ decided_by path driver order
walked-all tree path driver order at forced barred w e =
    let none : path_of tree at ≡ [] = ap (λ k. path_of tree k) e ∙ path-zero (reverse tree) in
    let f : forced_by driver order path ≡ forced = w.forced_so_far ∙ (ap (λ ds. forced || forced_by driver order ds) none ∙ or-none forced) in
    let b : barred_by driver order path ≡ barred = w.barred_so_far ∙ (ap (λ ds. barred || barred_by driver order ds) none ∙ or-none barred) in
    sym (rw (f, b) refl)

-- one cell more
pub push-cell : (f : ℕ → Pair) (cells more : List Pair) (n : ℕ) (x : Pair) → length cells ≡ n → ((k : ℕ) → k < n → get_or cells k Free ≡ f k) → x ≡ f n →
    more ≡ cells ++ x ∷ [] → (k : ℕ) → k < n + 1 → get_or more k Free ≡ f k
push-cell f cells more n x size each is e k l = ap (λ xs. get_or xs k Free) e ∙ by_place (same-or-not k n)
  where
    by_place : (k ≡ n) ⊎ (k ≢ n) → get_or (cells ++ x ∷ []) k Free ≡ f k
    by_place (inl same) =
        ap (λ m. get_or (cells ++ x ∷ []) m Free) (same ∙ sym size) ∙ (get_or-append_seam cells x [] Free ∙ (is ∙ ap f (sym same)))
    by_place (inr other) = let small : k < length cells = omega arith in get_or-append cells (x ∷ []) Free k small ∙ each k (omega arith)

pub one-more-cell : (cells more : List Pair) (n : ℕ) (x : Pair) → length cells ≡ n → more ≡ cells ++ x ∷ [] → length more ≡ n + 1
one-more-cell cells more n x size e =
    let one : length (x ∷ []) ≡ 1 = omega arith in omega (arith, ap length e, length-append cells (x ∷ []))

-- an element at a number that counts from 1, as code reads it
pub read-at : {X : Type 0} (xs : List X) (number : ℕ) (x : X) → 1 ≤ number → number ≤ length xs → x ≡ get_or xs (number - 1) x → slice_get xs (pred number) ≡ Some x
read-at xs number x one l e =
    let n : number - 1 ≡ pred number = omega arith in
    slice_get_read xs (length xs) (pred number) x refl (omega arith) (e ∙ ap (λ k. get_or xs k x) n)
