use Rattle.std.proofs.Common.{◌≡◌, ◌<◌, ◌∙◌, sym, ap, arith, eqb, true, false, length}
use Rattle.std.proofs.lemmas.Bool.{eq-eqb}
use Rattle.duty_plan.specs.Duties.{times_placed}
use Rattle.duty_plan.specs.Verdicts.{least_below}
use Rattle.duty_plan.proofs.Least.{least-found, least-more, some-eqb}
use Rattle.duty_plan.proofs.orders.lost.Goals as goal

pub loop-order-preserved : goal.loop-order-preserved
loop-order-preserved c =
    let no : eqb (times_placed c.args.plan.now c.loop-order.order) 0 ≡ false = some-eqb (times_placed c.args.plan.now c.loop-order.order) (rw c.places.ensures at c.if-places-eq0.false) in
    least-more (λ o. eqb (times_placed c.args.plan.now o) 0) c.loop-order.order c.loop-order.invariant no

pub returns-then-places-eq0 : goal.returns-then-places-eq0
returns-then-places-eq0 c =
    let yes : eqb (times_placed c.args.plan.now c.loop-order.order) 0 ≡ true = eq-eqb (times_placed c.args.plan.now c.loop-order.order) 0 (rw c.places.ensures at c.if-places-eq0.true) in
    let inside : c.loop-order.order < length c.args.week.now.orders = omega arith in
    sym (least-found (λ o. eqb (times_placed c.args.plan.now o) 0) (length c.args.week.now.orders) c.loop-order.order c.loop-order.invariant yes inside)

pub returns : goal.returns
returns c =
    let end : c.loop-order.order ≡ length c.args.week.now.orders = omega arith in
    sym c.loop-order.invariant ∙ ap (least_below (λ o. eqb (times_placed c.args.plan.now o) 0)) end
