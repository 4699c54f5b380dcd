use Rattle.std.proofs.Common.{refl}
use Rattle.week_maker.proofs.orders.draw_order.Goals as goal

pub returns-clause-order : goal.returns-clause-order
returns-clause-order c =
    rw (
      c.draw-place.ensures.number,
      c.draw-day.ensures.number,
      c.draw.ensures.number,
      c.draw-2.ensures.number,
      c.draw-3.ensures.number,
      c.draw-4.ensures.number,
      c.draw-5.ensures.number,
      c.draw-4.ensures.state,
      c.draw-3.ensures.state,
      c.draw-2.ensures.state,
      c.draw.ensures.state,
      c.draw-day.ensures.state,
      c.draw-place.ensures.state,
    ) refl

pub returns-clause-state : goal.returns-clause-state
returns-clause-state c =
    rw (
      c.draw-5.ensures.state,
      c.draw-4.ensures.state,
      c.draw-3.ensures.state,
      c.draw-2.ensures.state,
      c.draw.ensures.state,
      c.draw-day.ensures.state,
      c.draw-place.ensures.state,
    ) refl
