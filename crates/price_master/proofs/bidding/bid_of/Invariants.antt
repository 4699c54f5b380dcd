use Rattle.std.proofs.Common.{◌≡◌, ◌*◌, ◌≤◌, cond}
use Rattle.duty_plan.specs.PartialDuties.{serves}
use Rattle.duty_plan.specs.Duties.{partial_of, price_of}
use Rattle.duty_plan.specs.Labels.{bits_below}
use Rattle.duty_plan.specs.Sums.{total_below}
use Rattle.price_master.proofs.bidding.bid_of.Given as goal

abbrev pub invariant-loop-order : goal.invariant-loop-order
invariant-loop-order l = record {
  bits : l.served ≡ bits_below (λ o. serves o (partial_of l.entry.duty)) l.order;
  worth : l.worth ≡ total_below (λ o. cond (serves o (partial_of l.entry.duty)) (price_of l.case.week o) 0) l.order;
  small : l.worth ≤ l.order * 100000000;
}
