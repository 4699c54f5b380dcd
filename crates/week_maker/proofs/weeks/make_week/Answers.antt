use Rattle.std.proofs.Common.{[], ◌∷◌, sym}
use Rattle.week_maker.specs.Rows.{rows_for_each}
use Rattle.week_maker.specs.MadeWeeks.{week_row, place_row, hub_legs, ring_legs, ring_seed, driver_rows, order_rows, order_seed}
use Rattle.week_maker.proofs.WholeText.{six-parts}
use Rattle.week_maker.proofs.weeks.make_week.Goals as goal

pub returns : goal.returns
returns c =
    rw (
      c.in_ok-push_orders.ensures,
      c.in_ok-push_drivers.ensures,
      c.in_ok-push_ring_legs.ensures.text,
      c.in_ok-push_ring_legs.ensures.state,
      c.in_ok-push_hub_legs.ensures.text,
      c.in_ok-push_hub_legs.ensures.state,
      c.in_ok-push_places.ensures,
      c.in_ok-extend_from_slice.ensures.ok,
      c.new-text.ensures,
      c.seeded-draws.ensures,
    ) (sym (
    six-parts [] (week_row ∷ place_row 0 ∷ []) (rows_for_each 12 (λ place. place_row place ∷ [])) (rows_for_each 12 (hub_legs c.args.seed))
    (rows_for_each 11 (ring_legs (ring_seed c.args.seed))) (rows_for_each 12 driver_rows)
    (rows_for_each 40 (order_rows (order_seed c.args.seed)))
    ))
