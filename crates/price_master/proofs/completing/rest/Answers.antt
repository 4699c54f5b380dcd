use Rattle.std.proofs.Common.{◌+◌, ◌∙◌, sym, subst, List, ℕ}
use Rattle.price_master.proofs.Rests.{IsRestSoFar, rest-pushed, rest-skipped}
use Rattle.price_master.proofs.completing.rest.Goals as goal
use Rattle.price_master.proofs.completing.rest.Goals.{then-not-is_served+in_ok-push, else-not-is_served}

pub loop-order-preserved : goal.loop-order-preserved
loop-order-preserved c = elim c.if-not-is_served.branch [
  | then-not-is_served+in_ok-push w ↦
      rest-pushed c.args.duties.now c.loop-order.order c.loop-order.out c.if-not-is_served.out c.loop-order.invariant
      (c.is_served.ensures.none w.if-not-is_served.true) (w.out-is ∙ w.in_ok-push.ensures.ok)
  | else-not-is_served w ↦
      subst (λ (x : List ℕ). IsRestSoFar c.args.duties.now (c.loop-order.order + 1) x) (sym w.out-is)
      (rest-skipped c.args.duties.now c.loop-order.order c.loop-order.out c.loop-order.invariant (c.is_served.ensures.served w.if-not-is_served.false))
]
