use Rattle.std.proofs.Common.{◌≡◌}
use Rattle.seeded_draws.specs.Draws.{state_after}
use Rattle.week_maker.specs.Rows.{with_rows, rows_for_each}
use Rattle.week_maker.specs.MadeWeeks.{hub_legs}
use Rattle.week_maker.proofs.legs.push_hub_legs.Given as goal

abbrev pub invariant-loop-before : goal.invariant-loop-before
invariant-loop-before l = record {
  text : l.text ≡ with_rows l.fn.text (rows_for_each l.before (hub_legs l.fn.draws.state));
  state : l.draws.state ≡ state_after l.fn.draws.state l.before;
}
