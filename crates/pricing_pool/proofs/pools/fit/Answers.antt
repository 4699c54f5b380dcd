use Rattle.std.proofs.Common.{All, sym, subst}
use Rattle.std.proofs.lemmas.List.Elements.{All-push}
use Rattle.duty_pricing.specs.Finding.{IsEmpty}
use Rattle.pricing_pool.proofs.pools.fit.Goals as goal

pub making-preserved : goal.making-preserved
making-preserved c =
    subst (All IsEmpty) (sym c.in_ok-push.ensures.items)
    (All-push IsEmpty c.making.scratches.items c.in_ok-make_scratch.field-0 c.making.invariant c.in_ok-make_scratch.ensures)
