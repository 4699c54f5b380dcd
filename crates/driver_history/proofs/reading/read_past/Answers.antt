use Rattle.driver_history.proofs.Rows.{are_past, rests_said, past_works_said}
use Rattle.driver_history.proofs.reading.read_past.Goals as goal

pub history_by_rows-requires-clause-rest : goal.history_by_rows-requires-clause-rest
history_by_rows-requires-clause-rest c =
    rw (c.find_rest-rest.ensures, c.as_slice-rows.ensures, c.as_slice-name.ensures) (rests_said c.args.driver.now c.args.rows.now c.requires.ranges)

pub history_by_rows-requires-clause-worked : goal.history_by_rows-requires-clause-worked
history_by_rows-requires-clause-worked c =
    rw (c.find_worked-worked.ensures, c.as_slice-rows.ensures, c.as_slice-name.ensures) (past_works_said c.args.driver.now c.args.rows.now c.requires.ranges)

pub history_by_rows-requires-clause-activities : goal.history_by_rows-requires-clause-activities
history_by_rows-requires-clause-activities c =
    rw (c.deref.ensures.value, c.in_ok-activities.ensures, c.as_slice-rows.ensures, c.as_slice-name.ensures)
    (are_past c.args.driver.now c.args.rows.now c.requires)

pub returns : goal.returns
returns c =
    let said = c.history_by_rows.ensures in
    rw (c.find_rest-rest.ensures, c.find_worked-worked.ensures, c.deref.ensures.value, c.in_ok-activities.ensures, c.as_slice-rows.ensures, c.as_slice-name.ensures) at said
