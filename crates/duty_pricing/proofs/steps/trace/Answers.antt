-- One step more, and those of the slot that it goes on from.
use Rattle.std.proofs.Common.{◌≡◌, Some, slice_get, reverse, List, ◌++◌, ap, sym, ◌∙◌, arith}
use Rattle.duty_plan.specs.declared.duties.Step.{Step}
use Rattle.duty_pricing.specs.Slots.{entries_of, partial_at}
use Rattle.duty_pricing.proofs.Entries.{path-step, path-room, path-end}
use Rattle.duty_pricing.proofs.steps.trace.Goals as goal

pub push-requires : goal.push-requires
push-requires c =
    let read : slice_get c.args.slots.now c.loop-at.at ≡ Some c.in-Some.slot.now = sym c.in-Some.ensures in
    let room = path-room c.args.slots.now c.loop-at.steps c.loop-at.at c.in-Some.slot.now (partial_at (entries_of c.args.slots.now) c.args.number) read
    c.loop-at-test.true (c.requires.parents c.loop-at.at c.in-Some.slot.now c.loop-at-test.true read) c.loop-at.invariant.path in
    omega (arith, room, c.requires.few)

pub loop-at-preserved : goal.loop-at-preserved
loop-at-preserved c =
    let read : slice_get c.args.slots.now c.loop-at.at ≡ Some c.in-Some.slot.now = sym c.in-Some.ensures in
    let before = c.requires.parents c.loop-at.at c.in-Some.slot.now c.loop-at-test.true read in
    record {
      low = omega (arith, before, c.loop-at.invariant.low);
      path = ap (λ (s : List Step). s ++ partial_at (entries_of c.args.slots.now) c.in-Some.slot.now.parent) c.push.ensures
          ∙ path-step c.args.slots.now c.loop-at.steps c.loop-at.at c.in-Some.slot.now (partial_at (entries_of c.args.slots.now) c.args.number) read
          c.loop-at-test.true before c.loop-at.invariant.path;
    }

pub returns : goal.returns
returns c =
    c.reverse.ensures
    ∙ ap (λ (s : List Step). reverse s)
    (path-end c.args.slots.now c.loop-at.steps c.loop-at.at (partial_at (entries_of c.args.slots.now) c.args.number) (omega (arith, c.loop-at-test.false))
    c.loop-at.invariant.path)
