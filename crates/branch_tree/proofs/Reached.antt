-- Within reach a search ends proved: no Open leaf is left where two more nodes fit, and no round answers Spent.
use Rattle.std.proofs.Common.{◌≡◌, inl, inr, ℕ, suc, pred, ◌+◌, ◌≤◌, true, List, [], ◌∷◌, length, map, refl, ap, sym, subst, ◌∙◌, arith, Some, slice_get}
use Rattle.std.specs.Prelude.{IfOk, Result, Ok, Err}
use Rattle.minute_line.specs.declared.many.Memory.{Memory}
use Rattle.duty_plan.specs.declared.plans.Case.{Case}
use Rattle.duty_plan.specs.declared.plans.Plan.{Plan}
use Rattle.duty_plan.specs.declared.outcomes.Limits.{Limits}
use Rattle.duty_plan.specs.declared.outcomes.Outcome.{Outcome}
use Rattle.duty_plan.specs.declared.outcomes.State.{State}
use Rattle.duty_plan.specs.declared.outcomes.State.TheVariants.{Proved, OpenLabels, OpenNodes}
use Rattle.duty_plan.specs.declared.nodes.Node.{Node}
use Rattle.duty_plan.specs.declared.nodes.NodeState.TheVariants.{Branched, Open, Spent}
use Rattle.duty_plan.specs.declared.deciding.Pairs.{Pairs}
use Rattle.duty_plan.specs.declared.pricing.Prices.{Prices}
use Rattle.duty_plan.specs.declared.pricing.Priced.{Priced}
use Rattle.duty_plan.specs.declared.pricing.Priced.TheVariants.{Least, NoDuty, Spent as SpentAnswer}
use Rattle.duty_plan.specs.LabelLists.{MayExhaustLabels, chunks_for}
use Rattle.duty_plan.specs.Rounds.{has_spent}
use Rattle.duty_plan.specs.Trees.{HasLeaf, IsRight, IsWithinReach}
use Rattle.duty_plan.proofs.Lists.{slice_get-lt}
use Rattle.price_master.proofs.Carried.{get-below}
use Rattle.branch_tree.specs.Growth.{IsGrown, outcome_of, settled}
use Rattle.branch_tree.specs.Reaching.{AreWeights}
use Rattle.branch_tree.specs.Searching.{IsSearching}
use Rattle.branch_tree.proofs.SearchFacts.{right}
use Rattle.branch_tree.proofs.Fitting.{settled-weighs, two-fit}

-- an answer that says Spent
spent-there : (answers : List Priced) → has_spent answers ≡ true → (k : ℕ) × (stored : ℕ) × (slice_get answers k ≡ Some (SpentAnswer stored))
spent-there [] h = cc
spent-there (Least v d ∷ rest) h = let more = spent-there rest h in (suc more.0, more.1, more.2)
spent-there (NoDuty ∷ rest) h = let more = spent-there rest h in (suc more.0, more.1, more.2)
spent-there (SpentAnswer n ∷ rest) h = (0, n, refl)

-- within reach no round may answer Spent
never-spent : (case : Case) (limits : Limits) (pairs : Pairs) (prices : Prices) → IsWithinReach case limits →
    MayExhaustLabels (chunks_for limits.labels) case pairs prices → ⊥
never-spent case limits pairs prices reach (inl few) = let many = reach.chunks in absurd (omega arith)
never-spent case limits pairs prices reach (inr fill) =
    let low = reach.labels pairs prices fill.lists fill.drivers fill.each in
    let long = fill.long in absurd (omega arith)

no-spent : (case : Case) (limits : Limits) (outcome : Outcome) → IsRight case limits outcome → IsWithinReach case limits → HasLeaf Spent outcome.tree → ⊥
no-spent case limits outcome right reach leaf =
    let run = get-below right.runs (pred leaf.0) (omega (arith, right.tree.all_runs, leaf.2.0, slice_get-lt outcome.tree (pred leaf.0) leaf.1 leaf.2.1)) in
    let all = right.tree.each leaf.0 leaf.1 run.0 leaf.2 run.1 in
    let ended = (all.2.spent leaf.3).1 in
    let answer = spent-there ended.0.answers ended.3 in
    let round = all.0.run.each (pred (length run.0)) ended.0 ended.1 in
    never-spent case limits all.0.start.pairs ended.0.prices reach (round.each answer.0 (SpentAnswer answer.1) answer.2).0

no-open : (case : Case) (limits : Limits) (outcome : Outcome) (weights : List ℕ) → IsRight case limits outcome → IsWithinReach case limits →
    AreWeights case.week outcome.tree weights → limits.nodes ≤ length outcome.tree + 1 → HasLeaf Open outcome.tree → ⊥
no-open case limits outcome weights right reach a full leaf =
    let run = get-below right.runs (pred leaf.0) (omega (arith, right.tree.all_runs, leaf.2.0, slice_get-lt outcome.tree (pred leaf.0) leaf.1 leaf.2.1)) in
    let all = right.tree.each leaf.0 leaf.1 run.0 leaf.2 run.1 in
    let free = (all.2.open_leaf leaf.3).0 in
    let fit = two-fit case.week outcome.tree weights leaf.0 leaf.1 a leaf.2 (λ e. let z : Branched ≡ Open = sym e ∙ leaf.3 in cc) free in
    let nodes = reach.nodes in absurd (omega arith)

reach-proved : (case : Case) (limits : Limits) (outcome : Outcome) (weights : List ℕ) → IsRight case limits outcome → AreWeights case.week outcome.tree weights →
    IsWithinReach case limits → outcome.state ≡ Proved
reach-proved case limits outcome weights right a reach = by_state outcome.state refl
  where
    by_state : (s : State) → outcome.state ≡ s → outcome.state ≡ Proved
    by_state Proved e = e
    by_state OpenNodes e = absurd (no-open case limits outcome weights right reach a (right.state.full e) (right.state.open_nodes.0 e))
    by_state OpenLabels e = absurd (no-spent case limits outcome right reach (right.state.open_labels.0 e).1)

-- the state at either end
pub reach-result : (case : Case) (limits : Limits) (plan : Plan) (cost : ℕ) (tree seen : List Node) (counts : List (List ℕ)) (result : Result Outcome Memory) →
    IsSearching case limits plan cost tree counts → seen ≡ tree → IsGrown limits cost tree →
    IfOk result (λ outcome. outcome ≡ outcome_of plan cost (map (settled cost) seen)) → IfOk result (λ outcome. IsWithinReach case limits → outcome.state ≡ Proved)
reach-result case limits plan cost tree seen counts (Ok outcome) s e g h =
    let is : outcome ≡ outcome_of plan cost (map (settled cost) tree) = h ∙ ap (λ (x : List Node). outcome_of plan cost (map (settled cost) x)) e in
    let weighed : AreWeights case.week outcome.tree s.weights = subst (λ (x : List Node). AreWeights case.week x s.weights) (sym (ap (λ (o : Outcome). o.tree) is))
    (settled-weighs case.week cost tree s.weights s.growing.shape s.weighed) in
    reach-proved case limits outcome s.weights (right case limits plan cost tree seen counts outcome s e g h) weighed
reach-result case limits plan cost tree seen counts (Err m) s e g h = tt
