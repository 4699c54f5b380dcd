use Rattle.std.proofs.Common.{◌≡◌, ℕ, ◌+◌, ◌≤◌, ◌∷◌, [], ◌++◌, ◌∙◌, inl, inr, List, length, ap, sym, subst, arith}
use Rattle.duty_plan.specs.declared.nodes.Node.{Node}
use Rattle.duty_plan.specs.Nodes.{IsNode}
use Rattle.branch_tree.specs.Growth.{branched_at}
use Rattle.branch_tree.specs.Searching.{IsSearching, IsNextNode, HasNoNext}
use Rattle.branch_tree.proofs.Branchings.{root-searching}
use Rattle.branch_tree.proofs.Reached.{reach-result}
use Rattle.branch_tree.proofs.SearchFacts.{at-lower-cost, earlier, all-priced, all-counted, moved, next-moved, in-tree, pushed, right-result, written}
use Rattle.branch_tree.proofs.searching.search.Goals as goal

pub loop-task-init : goal.loop-task-init
loop-task-init g c =
    let root =
    root-searching c.args.case.now c.args.limits.now c.run_node.new.kept.plan c.run_node.new.kept.cost c.in_ok-start.start
    c.in_ok-root.root.node c.in_ok-root.root.counts c.requires.limits c.run_node.ensures.kept c.in_ok-start.ensures c.in_ok-root.ensures.ran
    c.in_ok-root.ensures.parent c.in_ok-root.ensures.decision c.in_ok-root.ensures.prices in
    let tree : c.push.new.self ≡ c.in_ok-root.root.node ∷ [] = c.in_ok-push.ensures.ok ∙ ap (λ (xs : List Node). xs ++ c.in_ok-root.root.node ∷ []) c.new-tree.ensures in
    let counts : c.push-2.new.self ≡ c.in_ok-root.root.counts ∷ [] =
    c.in_ok-push-2.ensures.ok ∙ ap (λ (xs : List (List ℕ)). xs ++ c.in_ok-root.root.counts ∷ []) c.new-counts.ensures in record {
      going =
          moved c.args.case.now c.args.limits.now c.run_node.new.kept.plan c.run_node.new.kept.cost (c.in_ok-root.root.node ∷ []) c.push.new.self
          (c.in_ok-root.root.counts ∷ []) c.push-2.new.self root tree counts;
      pool = c.run_node.ensures.pool;
      chunks = c.run_node.ensures.chunks;
    }

pub children-requires-clause-number : goal.children-requires-clause-number
children-requires-clause-number g c = λ lifetimes outlives.
    in-tree c.loop-task.kept.cost c.as_slice-in-loop-task.result.now c.in-Some.number
    (next-moved c.loop-task.kept.cost c.as_slice-in-loop-task.result.now c.as_slice.result.now c.in-Some.number c.in-Some.ensures
    (c.as_slice.ensures ∙ sym c.as_slice-in-loop-task.ensures))

pub children-requires-clause-parents : goal.children-requires-clause-parents
children-requires-clause-parents g c = λ lifetimes outlives.
    earlier c.args.case.now c.args.limits.now c.loop-task.kept.plan c.loop-task.kept.cost c.loop-task.tree c.as_slice-in-loop-task.result.now c.loop-task.counts
    c.loop-task.invariant.going c.as_slice-in-loop-task.ensures

pub children-requires-clause-priced : goal.children-requires-clause-priced
children-requires-clause-priced g c = λ lifetimes outlives.
    all-priced c.args.case.now c.args.limits.now c.loop-task.kept.plan c.loop-task.kept.cost c.loop-task.tree c.as_slice-in-loop-task.result.now c.loop-task.counts
    c.loop-task.invariant.going c.as_slice-in-loop-task.ensures

pub children-requires-clause-counted : goal.children-requires-clause-counted
children-requires-clause-counted g c = λ lifetimes outlives.
    all-counted c.args.case.now c.args.limits.now c.loop-task.kept.plan c.loop-task.kept.cost c.loop-task.tree c.loop-task.counts c.as_slice-in-loop-task-2.result.now
    c.loop-task.invariant.going c.as_slice-in-loop-task-2.ensures

pub bounds-as_slice-place : goal.bounds-as_slice-place
bounds-as_slice-place g c =
    let there = in-tree c.loop-task.kept.cost c.as_slice.result.now c.in-Some.number c.in-Some.ensures in
    omega (arith, there.0, there.1, ap length c.as_slice.ensures, ap length c.as_slice-in-loop-task-3.ensures)

pub set-requires : goal.set-requires
set-requires g c =
    let there = in-tree c.loop-task.kept.cost c.as_slice.result.now c.in-Some.number c.in-Some.ensures in
    record { place = omega (arith, there.0, there.1, ap length c.as_slice.ensures) }

pub loop-task-preserved : goal.loop-task-preserved
loop-task-preserved g c =
    let next : IsNextNode c.loop-task.kept.cost c.loop-task.tree c.in-Some.number =
    next-moved c.loop-task.kept.cost c.loop-task.tree c.as_slice.result.now c.in-Some.number c.in-Some.ensures c.as_slice.ensures in
    let seen : c.as_slice-in-loop-task.result.now ≡ c.loop-task.tree = c.as_slice-in-loop-task.ensures in
    let others : c.as_slice-in-loop-task-2.result.now ≡ c.loop-task.counts = c.as_slice-in-loop-task-2.ensures in
    let at : IsNode c.as_slice-in-loop-task.result.now c.in-Some.number next.node =
    subst (λ (x : List Node). IsNode x c.in-Some.number next.node) (sym seen) next.is_node in
    let grown =
    subst (λ (x : List (List ℕ)). IsSearching c.args.case.now c.args.limits.now c.children.new.kept.plan c.children.new.kept.cost
    (branched_at c.loop-task.tree c.in-Some.number c.loop-task.kept.cost next.node c.in_ok-one.one.node c.in_ok-one.two.node) (x ++ c.in_ok-one.one.counts ∷ c.in_ok-one.two.counts ∷ [])) others
    (subst (λ (x : List Node). IsSearching c.args.case.now c.args.limits.now c.children.new.kept.plan c.children.new.kept.cost
    (branched_at x c.in-Some.number c.loop-task.kept.cost next.node c.in_ok-one.one.node c.in_ok-one.two.node)
    (c.as_slice-in-loop-task-2.result.now ++ c.in_ok-one.one.counts ∷ c.in_ok-one.two.counts ∷ [])) seen (c.in_ok-one.ensures.grows next.node at)) in
    let tree = written c.loop-task.tree c.as_slice-in-loop-task-3.result.now c.set.new.self c.push-in-loop-task.new.self c.push-in-loop-task-2.new.self c.in-Some.number c.loop-task.kept.cost
    next.node c.index-as_slice-place.result c.in_ok-node.node c.in_ok-one.one.node c.in_ok-one.two.node next.is_node c.as_slice-in-loop-task-3.ensures c.index-as_slice-place.is
    c.in_ok-node.ensures c.set.ensures c.in_ok-push-3.ensures.ok c.in_ok-push-4.ensures.ok in
    let counts = pushed c.loop-task.counts c.push-in-loop-task-3.new.self c.push-in-loop-task-4.new.self c.in_ok-one.one.counts c.in_ok-one.two.counts
    c.in_ok-push-5.ensures.ok c.in_ok-push-6.ensures.ok in record {
      going =
          moved c.args.case.now c.args.limits.now c.children.new.kept.plan c.children.new.kept.cost
          (branched_at c.loop-task.tree c.in-Some.number c.loop-task.kept.cost next.node c.in_ok-one.one.node c.in_ok-one.two.node) c.push-in-loop-task-2.new.self
          (c.loop-task.counts ++ c.in_ok-one.one.counts ∷ c.in_ok-one.two.counts ∷ []) c.push-in-loop-task-4.new.self grown tree counts;
      pool = c.children.ensures.pool;
      chunks = c.children.ensures.chunks ∙ c.loop-task.invariant.chunks;
    }

pub returns-in_default-clause-right : goal.returns-in_default-clause-right
returns-in_default-clause-right g c =
    let none : HasNoNext c.loop-task.kept.cost c.loop-task.tree = subst (λ (x : List Node). HasNoNext c.loop-task.kept.cost x) c.as_slice.ensures c.in_default.ensures in
    right-result c.args.case.now c.args.limits.now c.loop-task.kept.plan c.loop-task.kept.cost c.loop-task.tree c.as_slice-in_default.result.now c.loop-task.counts c.finish.result
    c.loop-task.invariant.going c.as_slice-in_default.ensures (inl none) c.finish.ensures

pub returns-in_default-clause-proved : goal.returns-in_default-clause-proved
returns-in_default-clause-proved g c =
    let none : HasNoNext c.loop-task.kept.cost c.loop-task.tree = subst (λ (x : List Node). HasNoNext c.loop-task.kept.cost x) c.as_slice.ensures c.in_default.ensures in
    reach-result c.args.case.now c.args.limits.now c.loop-task.kept.plan c.loop-task.kept.cost c.loop-task.tree c.as_slice-in_default.result.now c.loop-task.counts c.finish.result
    c.loop-task.invariant.going c.as_slice-in_default.ensures (inl none) c.finish.ensures

pub improve_open-requires-clause-few : goal.improve_open-requires-clause-few
improve_open-requires-clause-few g c =
    omega (arith, ap length c.as_slice-2.ensures, c.loop-task.invariant.going.growing.few, c.requires.limits.nodes.1)

pub improve_open-requires-clause-kept : goal.improve_open-requires-clause-kept
improve_open-requires-clause-kept g c = c.loop-task.invariant.going.kept

pub returns-clause-right : goal.returns-clause-right
returns-clause-right g c =
    let full : c.args.limits.now.nodes ≤ length c.loop-task.tree + 1 = omega (arith, c.len.ensures, c.loop-task-test.false) in
    let cheaper = at-lower-cost c.args.case.now c.args.limits.now c.loop-task.kept.plan c.in_ok-better.better.plan c.loop-task.kept.cost c.in_ok-better.better.cost c.loop-task.tree
    c.loop-task.counts c.loop-task.invariant.going c.in_ok-better.ensures.kept c.in_ok-better.ensures.falls in
    right-result c.args.case.now c.args.limits.now c.in_ok-better.better.plan c.in_ok-better.better.cost c.loop-task.tree c.as_slice-3.result.now c.loop-task.counts c.finish-2.result
    cheaper c.as_slice-3.ensures (inr full) c.finish-2.ensures

pub returns-clause-proved : goal.returns-clause-proved
returns-clause-proved g c =
    let full : c.args.limits.now.nodes ≤ length c.loop-task.tree + 1 = omega (arith, c.len.ensures, c.loop-task-test.false) in
    let cheaper = at-lower-cost c.args.case.now c.args.limits.now c.loop-task.kept.plan c.in_ok-better.better.plan c.loop-task.kept.cost c.in_ok-better.better.cost c.loop-task.tree
    c.loop-task.counts c.loop-task.invariant.going c.in_ok-better.ensures.kept c.in_ok-better.ensures.falls in
    reach-result c.args.case.now c.args.limits.now c.in_ok-better.better.plan c.in_ok-better.better.cost c.loop-task.tree c.as_slice-3.result.now c.loop-task.counts c.finish-2.result
    cheaper c.as_slice-3.ensures (inr full) c.finish-2.ensures
