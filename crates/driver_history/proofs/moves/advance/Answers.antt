use Rattle.std.proofs.Common.{◌∙◌, ap, arith, ℕ, drop, ◌++◌, ◌∷◌, []}
use Rattle.minute_line.specs.Minutes.{total_of}
use Rattle.minute_line.specs.Histories.{fields_of}
use Rattle.minute_line.specs.Debts.{with_debt}
use Rattle.driver_history.specs.declared.owing.Owed.{Owed}
use Rattle.driver_history.specs.Carrying.{SinceWeeklyRestFields, fields_left}
use Rattle.driver_history.specs.Debts.{debt_left, weeks_due}
use Rattle.driver_history.specs.Owing.{owed_left, weeks_later}
use Rattle.driver_history.specs.Advancing.{left_of, drive_total, work_total}
use Rattle.driver_history.proofs.Sixteen.{drive_most, work_most, later_up_to}
use Rattle.driver_history.proofs.Weeks.{kept-week}
use Rattle.driver_history.proofs.Beginnings.{states-debt}
use Rattle.driver_history.proofs.OwedBounds.{leaves-small}
use Rattle.driver_history.proofs.moves.advance.Goals as goal

pub drive-requires : goal.drive-requires
drive-requires c = let t = ap total_of c.as_slice-week.ensures in omega (arith, drive_most c.as_slice-week.result.now, t, c.requires.total)

pub work-requires : goal.work-requires
work-requires c = let t = ap total_of c.as_slice-week.ensures in omega (arith, work_most c.as_slice-week.result.now, t, c.requires.total)

pub into_history-requires-clause-kept : goal.into_history-requires-clause-kept
into_history-requires-clause-kept c = rw (c.in_ok-left.ensures, c.as_slice-week.ensures) (kept-week c.args.history.now c.args.line.now c.requires.total c.requires.lawful)

pub into_history-requires-clause-drive : goal.into_history-requires-clause-drive
into_history-requires-clause-drive c =
    let t = ap total_of c.as_slice-week.ensures in omega (arith, drive_most c.as_slice-week.result.now, t, c.requires.total, c.drive.ensures)

pub into_history-requires-clause-weeks : goal.into_history-requires-clause-weeks
into_history-requires-clause-weeks c =
    let t = ap total_of c.as_slice-week.ensures in
    rw c.later.ensures
    (later_up_to 10080 c.args.history.now.work16 c.work.result c.args.history.now.weeks
    (omega (arith, work_most c.as_slice-week.result.now, t, c.requires.total, c.work.ensures)))

pub with_debt-requires-clause-owed : goal.with_debt-requires-clause-owed
with_debt-requires-clause-owed c = rw (c.owed_after-owed.ensures, c.as_slice-week.ensures) (leaves-small c.args.history.now c.args.line.now c.requires.total c.requires.lawful).owed

pub with_debt-requires-clause-due : goal.with_debt-requires-clause-due
with_debt-requires-clause-due c =
    rw (c.weeks_from_next_monday.ensures, c.owed_after-owed.ensures, c.as_slice-week.ensures)
    (leaves-small c.args.history.now c.args.line.now c.requires.total c.requires.lawful).weeks

pub with_debt-requires-clause-none : goal.with_debt-requires-clause-none
with_debt-requires-clause-none c =
    rw (c.weeks_from_next_monday.ensures, c.owed_after-owed.ensures, c.as_slice-week.ensures)
    (leaves-small c.args.history.now c.args.line.now c.requires.total c.requires.lawful).none

pub returns : goal.returns
returns c =
    let history = fields_of c.args.history.now in
    let line = c.args.line.now.stints in
    let week = c.as_slice-week.ensures in
    let debt = debt_left history line in
    c.with_debt.ensures
    ∙ ap (λ (weeks : ℕ). with_debt c.owed_after-owed.result.owed weeks (fields_of c.in_ok-next.next)) c.weeks_from_next_monday.ensures
    ∙ ap (λ (o : Owed). with_debt o.owed (weeks_later o) (fields_of c.in_ok-next.next)) (c.owed_after-owed.ensures ∙ ap (owed_left history) week)
    ∙ states-debt c.args.history.now c.args.line.now (fields_of c.in_ok-next.next)
    ∙ ap (with_debt debt.owed (weeks_due debt)) (c.in_ok-next.ensures
    ∙ ap (λ (left : SinceWeeklyRestFields). fields_left left c.drive.result c.later.result) (c.in_ok-left.ensures ∙ ap (left_of history) week)
    ∙ ap (λ (drive : ℕ). fields_left (left_of history line) drive c.later.result) (c.drive.ensures ∙ ap drive_total week)
    ∙ ap (fields_left (left_of history line) (drive_total line))
    (c.later.ensures ∙ ap (λ (n : ℕ). drop 1 c.args.history.now.work16 ++ n ∷ []) (c.work.ensures ∙ ap work_total week)))
