-- A label that betters another stands at the same place.
use Rattle.std.proofs.Common.{arith, refl, ap, get_or, ◌∙◌}
use Rattle.dominance.proofs.Filed.{read}
use Rattle.dominance.proofs.storing.Fronts.bettered.Goals as goal

pub returns-then-better : goal.returns-then-better
returns-then-better c = (
  λ _. (
    _,
    read c.args.self.now.by_place.items c.args.label.now.place c.loop-stored.stored-index c.in-Some.list.now
        c.as_slice-stored-items.result.now _ (search arith)
        (c.in-Some.ensures.lookup.1 ∙ ap (λ xs. get_or xs c.args.label.now.place c.in-Some.list.now) c.deref.ensures.value)
        c.as_slice-stored-items.ensures c.loop-stored-test.true,
    c.if-stored.true,
    c.better.ensures.0 c.if-better.true,
  ),
  λ _. refl,
)
