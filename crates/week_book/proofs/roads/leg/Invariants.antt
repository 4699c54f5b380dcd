use Rattle.std.proofs.Common.{◌≡◌, ◌&&◌, ◌==◌, drop, find}
use Rattle.week_book.proofs.roads.leg.Given as goal

abbrev pub invariant-loop-leg : goal.invariant-loop-leg
invariant-loop-leg l = find (λ leg. (leg.from == l.from) && (leg.to == l.to)) (drop l.leg-index l.leg-items) ≡ find (λ leg. (leg.from == l.from) && (leg.to == l.to)) l.leg-items
