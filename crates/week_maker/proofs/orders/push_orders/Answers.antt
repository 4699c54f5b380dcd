use Rattle.std.proofs.Common.{◌+◌, ◌∷◌, [], ◌∙◌, ap, refl}
use Rattle.week_maker.specs.declared.orders.MadeOrder.{MadeOrder}
use Rattle.week_maker.specs.MadeWeeks.{order_row, order_rows}
use Rattle.week_maker.proofs.GrowingText.{rows-none, rows-more, order-state-more, order-next}
use Rattle.week_maker.proofs.Ranges.{order-in-range}
use Rattle.week_maker.proofs.orders.push_orders.Goals as goal

pub loop-before-init : goal.loop-before-init
loop-before-init c = record { text = rows-none c.args.text.now (order_rows c.args.draws.now.state); state = refl }

pub push_order-requires : goal.push_order-requires
push_order-requires c = rw c.draw_order-order.ensures.order (order-in-range c.loop-before.draws.state)

pub loop-before-preserved : goal.loop-before-preserved
loop-before-preserved c =
    let seed = c.args.draws.now.state in
    let i = c.loop-before.before in
    let was = c.loop-before.invariant in
    let order = c.draw_order-order.ensures.order ∙ order-next seed i c.loop-before.draws.state was.state in record {
      text =
          rows-more c.args.text.now (order_rows seed) i _ _ _ was.text
          (ap (λ (o : MadeOrder). order_row (i + 1) o ∷ []) order) c.in_ok-push_order.ensures;
      state = order-state-more seed i c.loop-before.draws.state _ was.state c.draw_order-order.ensures.state;
    }
