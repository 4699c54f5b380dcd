-- One comparison after the other.
use Rattle.std.proofs.Common.{arith}
use Rattle.std.proofs.lemmas.Int.{ints}
use Rattle.hours_rules.proofs.clocks.Clock.began_as_late.Goals as goal

pub returns : goal.returns
returns c = (λ both. (grind (arith, ints), grind (arith, ints)), λ g. grind (arith, ints))
