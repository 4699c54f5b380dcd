-- Past the cells nothing is decided.
use Rattle.std.proofs.Common.{Option, ap, ◌∙◌, ◌+◌, ◌*◌}
use Rattle.std.specs.Option.{unwrap_or}
use Rattle.std.proofs.lemmas.Option.{unwrap_or-slice_get}
use Rattle.duty_plan.specs.declared.deciding.Pair.{Pair}
use Rattle.duty_plan.specs.declared.deciding.Pair.TheVariants.{Free}
use Rattle.duty_pricing.proofs.forcing.pair.Goals as goal

pub returns-in-None : goal.returns-in-None
returns-in-None c =
    ap (λ (o : Option Pair). unwrap_or o Free) c.in-None.ensures
    ∙ unwrap_or-slice_get c.args.pairs.now.cells (c.args.driver * c.args.pairs.now.orders + c.args.order) Free
