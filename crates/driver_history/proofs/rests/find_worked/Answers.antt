use Rattle.std.proofs.Common.{◌∙◌, sym, ap}
use Rattle.week_book.specs.Pasts.{past_working_time}
use Rattle.driver_history.proofs.Rows.{some_found, none_found}
use Rattle.driver_history.proofs.rests.find_worked.Goals as goal

pub returns-in-Some : goal.returns-in-Some
returns-in-Some c =
    some_found (past_working_time c.args.name.now) c.args.rows.now c.loop-row.row-index c.row-item.result c.in-Some.worked c.loop-row-test.true c.loop-row.invariant
    (ap (past_working_time c.args.name.now) (sym c.row-item.is) ∙ sym c.in-Some.ensures)

pub returns : goal.returns
returns c =
    none_found (past_working_time c.args.name.now) c.args.rows.now c.loop-row.row-index c.loop-row-test.false c.loop-row.invariant
