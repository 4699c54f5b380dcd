-- The budget that the state of a right outcome names was spent.
use Rattle.std.proofs.Common.{◌≡◌, ℕ, zero, suc, pred, ◌+◌, ◌<◌, ◌≤◌, ◌||◌, Bool, true, false, List, [], ◌∷◌, length, slice_get, Some, refl, arith}
use Rattle.duty_plan.specs.declared.plans.Case.{Case}
use Rattle.duty_plan.specs.declared.outcomes.Limits.{Limits}
use Rattle.duty_plan.specs.declared.outcomes.Outcome.{Outcome}
use Rattle.duty_plan.specs.declared.outcomes.State.TheVariants.{OpenLabels}
use Rattle.duty_plan.specs.declared.nodes.Node.{Node}
use Rattle.duty_plan.specs.declared.pricing.Priced.{Priced}
use Rattle.duty_plan.specs.declared.pricing.Priced.TheVariants.{Least, NoDuty, Spent as wants}
use Rattle.duty_plan.specs.Nodes.{IsNode}
use Rattle.duty_plan.specs.Rounds.{Round, has_spent}
use Rattle.duty_plan.specs.Trees.{IsRight}
use Rattle.duty_plan.proofs.Lists.{slice_get-lt}
use Rattle.desk.specs.Succeeding.{WantsLabels, IsExact}

-- an answer that says that memory was spent
some-spent : (answers : List Priced) → has_spent answers ≡ true → (n : ℕ) × (stored : ℕ) × (slice_get answers n ≡ Some (wants stored))
some-spent [] h = cc
some-spent (Least value duty ∷ rest) h = let more = some-spent rest h in (suc more.0, more.1, more.2)
some-spent (NoDuty ∷ rest) h = let more = some-spent rest h in (suc more.0, more.1, more.2)
some-spent (wants stored ∷ rest) h = (0, stored, refl)

-- an element of that number
there : {X : Type 0} (xs : List X) (k : ℕ) → k < length xs → (x : X) × (slice_get xs k ≡ Some x)
there [] k below = absurd (omega arith)
there (x ∷ xs) zero below = (x, refl)
there (x ∷ xs) (suc k) below = there xs k (omega arith)

wants-labels : (case : Case) (limits : Limits) (outcome : Outcome) → IsRight case limits outcome → outcome.state ≡ OpenLabels
    → WantsLabels case limits outcome
wants-labels case limits outcome right is =
    let leaf = (right.state.open_labels.0 is).1 in
    let number = leaf.0 in
    let node = leaf.1 in
    let below : pred number < length right.runs = omega (arith, right.tree.all_runs, slice_get-lt outcome.tree (pred number) node leaf.2.1) in
    let run = there right.runs (pred number) below in
    let of_node = right.tree.each number node run.0 leaf.2 run.1 in
    let ends = (of_node.2.spent leaf.3).1 in
    let spent = some-spent ends.0.answers ends.3 in
    let round = of_node.0.run.each (pred (length run.0)) ends.0 ends.1 in record {
      number = number;
      leaf = node;
      is_leaf = leaf.2;
      spent = leaf.3;
      pairs = of_node.0.start.pairs;
      are_pairs = of_node.0.begins.pairs;
      prices = ends.0.prices;
      licensed = (round.each spent.0 (wants spent.1) spent.2).0;
    }

pub exact : (case : Case) (limits : Limits) (outcome : Outcome) → IsRight case limits outcome → IsExact case limits outcome
exact case limits outcome right = record {
  proved = right.bound.proved;
  nodes = right.state.full;
  labels = λ is. wants-labels case limits outcome right is;
}
