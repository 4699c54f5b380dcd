use Rattle.std.proofs.Common.{◌≡◌, ◌≤◌, ◌<◌, ◌∙◌, sym, ap, arith, leb, true, false, length}
use Rattle.std.proofs.lemmas.Bool.{lt-leb, le-leb}
use Rattle.duty_plan.specs.Duties.{times_placed}
use Rattle.duty_plan.specs.Verdicts.{least_below}
use Rattle.duty_plan.proofs.Least.{least-found, least-more}
use Rattle.duty_plan.proofs.orders.twice.Goals as goal

pub loop-order-preserved : goal.loop-order-preserved
loop-order-preserved c =
    let no : leb 2 (times_placed c.args.plan.now c.loop-order.order) ≡ false = let low : times_placed c.args.plan.now c.loop-order.order < 2 = rw c.places.ensures at c.if-places-ge2.false in lt-leb 2 (times_placed c.args.plan.now c.loop-order.order) low in
    least-more (λ o. leb 2 (times_placed c.args.plan.now o)) c.loop-order.order c.loop-order.invariant no

pub returns-then-places-ge2 : goal.returns-then-places-ge2
returns-then-places-ge2 c =
    let yes : leb 2 (times_placed c.args.plan.now c.loop-order.order) ≡ true = let high : 2 ≤ times_placed c.args.plan.now c.loop-order.order = rw c.places.ensures at c.if-places-ge2.true in le-leb 2 (times_placed c.args.plan.now c.loop-order.order) high in
    let inside : c.loop-order.order < length c.args.week.now.orders = omega arith in
    sym (least-found (λ o. leb 2 (times_placed c.args.plan.now o)) (length c.args.week.now.orders) c.loop-order.order c.loop-order.invariant yes inside)

pub returns : goal.returns
returns c =
    let end : c.loop-order.order ≡ length c.args.week.now.orders = omega arith in
    sym c.loop-order.invariant ∙ ap (least_below (λ o. leb 2 (times_placed c.args.plan.now o))) end
