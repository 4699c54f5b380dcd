use Rattle.std.proofs.Common.{◌≡◌, ◌∙◌, sym, arith, ap, length, Some}
use Rattle.std.specs.Prelude.{slice_get}
use Rattle.minute_line.specs.Minutes.{total_of}
use Rattle.duty_plan.specs.Duties.{open_off_at, capacity_at, partial_of}
use Rattle.duty_plan.proofs.Stretches.{keeps-line}
use Rattle.duty_plan.proofs.WeekLimits.{early}
use Rattle.desk_core.proofs.Afterwards.{stints-total, element, obeys, said-there}
use Rattle.desk_core.proofs.drafts.history_after.Goals as goal

pub line_of-requires-clause-steps : goal.line_of-requires-clause-steps
line_of-requires-clause-steps c =
    keeps-line c.args.case.now.week (open_off_at c.args.case.now c.args.driver) (capacity_at c.args.case.now c.args.driver) (partial_of c.args.duty.now)
    c.requires.lawful.partial.office

pub advance-requires-clause-total : goal.advance-requires-clause-total
advance-requires-clause-total c =
    omega (
      arith,
      ap total_of c.in_ok-line.ensures,
      stints-total c.args.case.now.week (partial_of c.args.duty.now),
      early c.args.case.now.week (open_off_at c.args.case.now c.args.driver) (capacity_at c.args.case.now c.args.driver) (partial_of c.args.duty.now)
          c.requires.lawful.partial.office,
    )

pub advance-requires-clause-lawful : goal.advance-requires-clause-lawful
advance-requires-clause-lawful c =
    let past = c.as_slice.result.now in
    let history = c.index-as_slice-driver.result in
    let there : slice_get c.args.case.now.past c.args.driver ≡ Some history =
    ap (λ l. slice_get l c.args.driver) (sym c.as_slice.ensures)
    ∙ element past c.args.driver history history (omega (arith, ap length c.as_slice.ensures)) c.index-as_slice-driver.is in
    obeys c.stints_are_minutes.ensures c.rest_is_free.ensures c.args.case.now c.args.driver c.args.duty.now history c.in_ok-line.line.stints
    c.requires.lawful there c.in_ok-line.ensures

pub returns : goal.returns
returns c =
    let past = c.as_slice.result.now in
    let history = c.index-as_slice-driver.result in
    let there : slice_get c.args.case.now.past c.args.driver ≡ Some history =
    ap (λ l. slice_get l c.args.driver) (sym c.as_slice.ensures)
    ∙ element past c.args.driver history history (omega (arith, ap length c.as_slice.ensures)) c.index-as_slice-driver.is in
    said-there c.advance.result (slice_get c.args.case.now.past c.args.driver) history c.in_ok-line.line.stints _ there c.in_ok-line.ensures c.advance.ensures
