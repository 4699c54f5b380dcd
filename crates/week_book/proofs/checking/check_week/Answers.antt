use Rattle.std.proofs.Common.{[], length, ap, subst, arith}
use Rattle.week_book.specs.Pasts.{HasPastRows}
use Rattle.week_book.proofs.Checked.{made_checked}
use Rattle.week_book.proofs.History.{has_past_rows}
use Rattle.week_book.proofs.Faultless.{faultless, kept}
use Rattle.week_book.proofs.checking.check_week.Goals as goal

pub make_week-requires-clause-ranges : goal.make_week-requires-clause-ranges
make_week-requires-clause-ranges c = let rows = c.as_slice-rows.result.now in kept [] rows (faultless rows c.in_ok-tables.ensures.fault).ranges

pub returns-clause-rows : goal.returns-clause-rows
returns-clause-rows c =
    let rows = c.as_slice-rows.result.now in
    let none = faultless rows c.in_ok-tables.ensures.fault in
    subst HasPastRows c.as_slice-rows.ensures
    (has_past_rows rows (omega (arith, ap length c.as_slice-rows.ensures, c.requires.few)) none.ranges none.doubles)

pub returns-clause-checked : goal.returns-clause-checked
returns-clause-checked c = made_checked c.make_week.result c.as_slice-rows.result.now c.in_ok-tables.ensures.fault c.make_week.ensures
