-- The legs before the next one are noted, and no others.
use Rattle.std.proofs.Common.{◌≤◌}
use Rattle.std.specs.List.{AllWithin}
use Rattle.duty_plan.specs.Acts.{cents_of_road, minutes_of_road}
use Rattle.duty_label.specs.Tables.{HasZeros, cell}
use Rattle.duty_label.specs.Walks.{AreTaken}
use Rattle.duty_label.specs.Pruning.{cents_between, minutes_between}
use Rattle.duty_label.proofs.walks.Walks.note_legs.Given as goal

abbrev pub invariant-loop-leg : goal.invariant-loop-leg
invariant-loop-leg l = record {
  minute_zeros : HasZeros l.self.minutes.rows.items;
  cent_zeros : HasZeros l.self.cents.rows.items;
  minutes : AllWithin (λ leg. cell l.self.minutes.rows.items leg.from leg.to ≤ leg.minutes) l.leg-items 0 l.leg-index;
  cents : AllWithin (λ leg. cell l.self.cents.rows.items leg.from leg.to ≤ leg.cents) l.leg-items 0 l.leg-index;
  minutes_taken : AreTaken minutes_of_road l.week (minutes_between l.self);
  cents_taken : AreTaken cents_of_road l.week (cents_between l.self);
}
