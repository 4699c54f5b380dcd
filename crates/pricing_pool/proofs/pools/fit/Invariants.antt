use Rattle.std.proofs.Common.{All, length, ◌-◌}
use Rattle.duty_pricing.specs.Finding.{IsEmpty}
use Rattle.pricing_pool.proofs.pools.fit.Given as goal

abbrev pub invariant-making : goal.invariant-making
invariant-making l = All IsEmpty l.scratches.items

abbrev pub decreases-making : goal.decreases-making
decreases-making l = l.drivers - length l.scratches.items
