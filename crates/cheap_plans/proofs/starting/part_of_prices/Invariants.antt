use Rattle.std.proofs.Common.{◌≡◌, map, take}
use Rattle.cheap_plans.proofs.Parts.{part_of}
use Rattle.cheap_plans.proofs.starting.part_of_prices.Given as goal

abbrev pub invariant-loop-order : goal.invariant-loop-order
invariant-loop-order l = l.cents ≡ map (part_of l.percent) (take l.order-index l.order-items)
