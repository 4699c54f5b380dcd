-- The walks over the places before the next one are noted, and no others.
use Rattle.std.proofs.Common.{ℕ, Option}
use Rattle.week_book.specs.declared.weeks.Leg.{Leg}
use Rattle.week_book.specs.declared.weeks.Week.{Week}
use Rattle.duty_label.specs.Tables.{HasZeros, IsBelow, IsClosedOver, cell}
use Rattle.duty_label.specs.Walks.{AreTaken}
use Rattle.duty_label.proofs.tables.Table.close.Given as goal

abbrev pub invariant-loop-over : goal.invariant-loop-over
invariant-loop-over l = record {
  zeros : HasZeros l.self.rows.items;
  below : IsBelow l.initial.self.rows.items l.self.rows.items;
  closed : IsClosedOver l.over l.self.rows.items;
  taken : (takes : Option Leg → ℕ) (week : Week) → AreTaken takes week (cell l.initial.self.rows.items) → AreTaken takes week (cell l.self.rows.items);
}
