-- The state and the least bound that the leaves of a tree show at the end.
use Rattle.std.proofs.Common.{◌≡◌, ◌≢◌, ◌⊎◌, inl, inr, ℕ, zero, suc, ◌<◌, ◌≤◌, leb, Bool, true, false, ◌||◌, List, [], ◌∷◌, refl, ap, sym, subst, ◌∙◌, arith, Some, slice_get}
use Rattle.std.proofs.lemmas.Bool.Decides.{nat_tests}
use Rattle.duty_plan.specs.declared.nodes.Node.{Node}
use Rattle.duty_plan.specs.declared.nodes.NodeState.{NodeState}
use Rattle.duty_plan.specs.declared.nodes.NodeState.TheVariants.{Branched, Closed, Empty, Open, Spent}
use Rattle.duty_plan.specs.declared.outcomes.State.TheVariants.{Proved, OpenLabels, OpenNodes}
use Rattle.branch_tree.specs.Growth.{is_unsettled, is_open, has_open, has_unsettled, lower_bound, least_bound, state_of}

pub is-open : (s : NodeState) → is_open s ≡ true → s ≡ Open
is-open Branched h = cc
is-open Closed h = cc
is-open Empty h = cc
is-open Open h = refl
is-open Spent h = cc

pub is-unsettled : (s : NodeState) → is_unsettled s ≡ true → (s ≡ Open) ⊎ (s ≡ Spent)
is-unsettled Branched h = cc
is-unsettled Closed h = cc
is-unsettled Empty h = cc
is-unsettled Open h = inl refl
is-unsettled Spent h = inr refl

pub unsettled-is : (s : NodeState) → (s ≡ Open) ⊎ (s ≡ Spent) → is_unsettled s ≡ true
unsettled-is s (inl e) = ap is_unsettled e
unsettled-is s (inr e) = ap is_unsettled e

-- a leaf that an Open or Spent state has
pub record IsAmong (test : NodeState → Bool) (nodes : List Node) : Type 0 where
  pub place : ℕ
  pub node : Node
  pub there : slice_get nodes place ≡ Some node
  pub passes : test node.state ≡ true

later : (test : NodeState → Bool) (first : Node) (rest : List Node) → IsAmong test rest → IsAmong test (first ∷ rest)
later test first rest a = record { place = suc a.place; node = a.node; there = a.there; passes = a.passes }

or-false : (a b : Bool) → a ≡ false → (a || b) ≡ b
or-false a b e = rw e refl

or-true : (a b : Bool) → b ≡ true → (a || b) ≡ true
or-true true b e = refl
or-true false b e = e

pub open-there : (nodes : List Node) → has_open nodes ≡ true → IsAmong is_open nodes
open-there [] h = cc
open-there (node ∷ rest) h = by_test (is_open node.state) refl (λ e. open-there rest e)
  where
    by_test : (b : Bool) → is_open node.state ≡ b → (has_open rest ≡ true → IsAmong is_open rest) → IsAmong is_open (node ∷ rest)
    by_test true e more = record { place = 0; node = node; there = refl; passes = e }
    by_test false e more = later is_open node rest (more (sym (or-false (is_open node.state) (has_open rest) e) ∙ h))

pub open-has : (nodes : List Node) (n : ℕ) (node : Node) → slice_get nodes n ≡ Some node → node.state ≡ Open → has_open nodes ≡ true
open-has [] n node h e = cc
open-has (first ∷ rest) zero node h e =
    let same : first ≡ node = cc in
    let yes : is_open first.state ≡ true = ap (λ (x : Node). is_open x.state) same ∙ ap is_open e in rw yes refl
open-has (first ∷ rest) (suc n) node h e = or-true (is_open first.state) (has_open rest) (open-has rest n node h e)

pub unsettled-there : (nodes : List Node) → has_unsettled nodes ≡ true → IsAmong is_unsettled nodes
unsettled-there [] h = cc
unsettled-there (node ∷ rest) h = by_test (is_unsettled node.state) refl (λ e. unsettled-there rest e)
  where
    by_test : (b : Bool) → is_unsettled node.state ≡ b → (has_unsettled rest ≡ true → IsAmong is_unsettled rest) → IsAmong is_unsettled (node ∷ rest)
    by_test true e more = record { place = 0; node = node; there = refl; passes = e }
    by_test false e more = later is_unsettled node rest (more (sym (or-false (is_unsettled node.state) (has_unsettled rest) e) ∙ h))

pub unsettled-has : (nodes : List Node) (n : ℕ) (node : Node) → slice_get nodes n ≡ Some node → is_unsettled node.state ≡ true → has_unsettled nodes ≡ true
unsettled-has [] n node h e = cc
unsettled-has (first ∷ rest) zero node h e =
    let same : first ≡ node = cc in
    let yes : is_unsettled first.state ≡ true = ap (λ (x : Node). is_unsettled x.state) same ∙ e in rw yes refl
unsettled-has (first ∷ rest) (suc n) node h e = or-true (is_unsettled first.state) (has_unsettled rest) (unsettled-has rest n node h e)

-- the lesser bound
lower : (least : ℕ) (node : Node) → lower_bound least node ≤ least
lower least node = by_test (is_unsettled node.state) refl (leb node.bound least) refl
  where
    by_test : (u : Bool) → is_unsettled node.state ≡ u → (c : Bool) → leb node.bound least ≡ c → lower_bound least node ≤ least
    by_test true e true f = let l : node.bound ≤ least = grind (arith, nat_tests) in rw (e, f) l
    by_test true e false f = rw (e, f) (omega arith)
    by_test false e c f = rw e (omega arith)

lower-node : (least : ℕ) (node : Node) → is_unsettled node.state ≡ true → lower_bound least node ≤ node.bound
lower-node least node u = by_test (leb node.bound least) refl
  where
    by_test : (c : Bool) → leb node.bound least ≡ c → lower_bound least node ≤ node.bound
    by_test true f = rw (u, f) (omega arith)
    by_test false f = let l : least < node.bound = grind (arith, nat_tests) in rw (u, f) (omega arith)

lower-from : (least : ℕ) (node : Node) → (lower_bound least node ≡ least) ⊎ ((is_unsettled node.state ≡ true) × (node.bound ≡ lower_bound least node))
lower-from least node = by_test (is_unsettled node.state) refl (leb node.bound least) refl
  where
    by_test : (u : Bool) → is_unsettled node.state ≡ u → (c : Bool) → leb node.bound least ≡ c →
        (lower_bound least node ≡ least) ⊎ ((is_unsettled node.state ≡ true) × (node.bound ≡ lower_bound least node))
    by_test true e true f = inr (e, sym (rw (e, f) refl))
    by_test true e false f = inl (rw (e, f) refl)
    by_test false e c f = inl (rw e refl)

pub least-below : (first : ℕ) (nodes : List Node) (n : ℕ) (node : Node) → slice_get nodes n ≡ Some node → is_unsettled node.state ≡ true →
    least_bound first nodes ≤ node.bound
least-below first [] n node h u = cc
least-below first (x ∷ rest) zero node h u =
    let same : x ≡ node = cc in
    let yes : is_unsettled x.state ≡ true = ap (λ (y : Node). is_unsettled y.state) same ∙ u in
    subst (λ (y : Node). lower_bound (least_bound first rest) x ≤ y.bound) same (lower-node (least_bound first rest) x yes)
least-below first (x ∷ rest) (suc n) node h u =
    omega (arith, lower (least_bound first rest) x, least-below first rest n node h u)

-- a leaf whose bound is the least
pub record IsLeastLeaf (first : ℕ) (nodes : List Node) : Type 0 where
  pub place : ℕ
  pub node : Node
  pub there : slice_get nodes place ≡ Some node
  pub unsettled : is_unsettled node.state ≡ true
  pub bound : node.bound ≡ least_bound first nodes

pub least-from : (first : ℕ) (nodes : List Node) → (least_bound first nodes ≡ first) ⊎ IsLeastLeaf first nodes
least-from first [] = inl refl
least-from first (x ∷ rest) = by_step (lower-from (least_bound first rest) x) (least-from first rest)
  where
    by_step : (lower_bound (least_bound first rest) x ≡ least_bound first rest) ⊎
        ((is_unsettled x.state ≡ true) × (x.bound ≡ lower_bound (least_bound first rest) x)) → (least_bound first rest ≡ first) ⊎ IsLeastLeaf first rest →
        (least_bound first (x ∷ rest) ≡ first) ⊎ IsLeastLeaf first (x ∷ rest)
    by_step (inr h) more = inr (record { place = 0; node = x; there = refl; unsettled = h.0; bound = h.1 })
    by_step (inl h) (inl e) = inl (h ∙ e)
    by_step (inl h) (inr a) = inr (record { place = suc a.place; node = a.node; there = a.there; unsettled = a.unsettled; bound = a.bound ∙ sym h })

pub least-none : (first : ℕ) (nodes : List Node) → has_unsettled nodes ≡ false → least_bound first nodes ≡ first
least-none first nodes h = by_from (least-from first nodes)
  where
    by_from : (least_bound first nodes ≡ first) ⊎ IsLeastLeaf first nodes → least_bound first nodes ≡ first
    by_from (inl e) = e
    by_from (inr a) = let yes = unsettled-has nodes a.place a.node a.there a.unsettled in cc

-- what the state says
pub state-open : (nodes : List Node) → state_of nodes ≡ OpenNodes → has_open nodes ≡ true
state-open nodes e = by_test (has_open nodes) refl (has_unsettled nodes) refl
  where
    by_test : (a : Bool) → has_open nodes ≡ a → (b : Bool) → has_unsettled nodes ≡ b → has_open nodes ≡ true
    by_test true f b g = f
    by_test false f true g = let s : state_of nodes ≡ OpenLabels = rw (f, g) refl in cc
    by_test false f false g = let s : state_of nodes ≡ Proved = rw (f, g) refl in cc

pub open-state : (nodes : List Node) → has_open nodes ≡ true → state_of nodes ≡ OpenNodes
open-state nodes e = rw e refl

pub state-labels : (nodes : List Node) → state_of nodes ≡ OpenLabels → (has_open nodes ≡ false) × (has_unsettled nodes ≡ true)
state-labels nodes e = by_test (has_open nodes) refl (has_unsettled nodes) refl
  where
    by_test : (a : Bool) → has_open nodes ≡ a → (b : Bool) → has_unsettled nodes ≡ b → (has_open nodes ≡ false) × (has_unsettled nodes ≡ true)
    by_test true f b g = let s : state_of nodes ≡ OpenNodes = rw f refl in cc
    by_test false f true g = (f, g)
    by_test false f false g = let s : state_of nodes ≡ Proved = rw (f, g) refl in cc

pub labels-state : (nodes : List Node) → has_open nodes ≡ false → has_unsettled nodes ≡ true → state_of nodes ≡ OpenLabels
labels-state nodes f g = rw (f, g) refl

pub state-proved : (nodes : List Node) → state_of nodes ≡ Proved → has_unsettled nodes ≡ false
state-proved nodes e = by_test (has_open nodes) refl (has_unsettled nodes) refl
  where
    by_test : (a : Bool) → has_open nodes ≡ a → (b : Bool) → has_unsettled nodes ≡ b → has_unsettled nodes ≡ false
    by_test true f b g = let s : state_of nodes ≡ OpenNodes = rw f refl in cc
    by_test false f true g = let s : state_of nodes ≡ OpenLabels = rw (f, g) refl in cc
    by_test false f false g = g

pub unproved-some : (nodes : List Node) → state_of nodes ≢ Proved → has_unsettled nodes ≡ true
unproved-some nodes n = by_test (has_open nodes) refl (has_unsettled nodes) refl
  where
    by_test : (a : Bool) → has_open nodes ≡ a → (b : Bool) → has_unsettled nodes ≡ b → has_unsettled nodes ≡ true
    by_test a f true g = g
    by_test true f false g =
        let leaf = open-there nodes f in
        unsettled-has nodes leaf.place leaf.node leaf.there (ap is_unsettled (is-open leaf.node.state leaf.passes))
    by_test false f false g = absurd (n (rw (f, g) refl))
