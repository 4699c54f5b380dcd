-- The parts of the order, test by test.
use Rattle.hours_rules.proofs.JoinedTests.{all_four, from_four}
use Rattle.dominance.proofs.comparing.better.Goals as goal

pub returns : goal.returns
returns c = (
  λ h.
      let all = all_four c.is_there_no_dearer.result c.serves_among.result c.has_as_much_room.result c.dominates.result h in
      let first = c.is_there_no_dearer.ensures.0 all.0 in
      let orders = c.serves_among.ensures.0 all.1 in
      let room = c.has_as_much_room.ensures.0 all.2 in record {
        clock = c.dominates.ensures.0 all.3;
        place = first.0;
        used = room.0;
        value = first.1;
        loaded = room.1;
        among = orders.0;
        agree = orders.1;
      },
  λ g. from_four _ _ _ _ (c.is_there_no_dearer.ensures.1 (g.place, g.value)) (c.serves_among.ensures.1 (g.among, g.agree))
      (c.has_as_much_room.ensures.1 (g.used, g.loaded)) (c.dominates.ensures.1 g.clock),
)
