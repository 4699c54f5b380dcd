use Rattle.std.proofs.Common.{◌≡◌}
use Rattle.desk_report.specs.Summaries.{summary_text}
use Rattle.week_maker.specs.declared.weeks.TheConstants.{ROW_COUNT}
use Rattle.desk.proofs.MadeTellings.{summed-up}
use Rattle.desk.proofs.making.planned.Goals as goal

pub returns : goal.returns
returns g c =
    let told = c.in_ok-summary.ensures in
    let case = c.in_ok-case.case-is in
    let outcome = c.in_ok-case.outcome-is in
    let is : c.in_ok-summary.field-0 ≡ summary_text c.args.seed c.in_ok-case.field-0.case.week ROW_COUNT c.in_ok-case.field-0.outcome = cc in
    summed-up c.args.seed c.args.limits.now c.args.text.now c.in_ok-summary.field-0 c.in_ok-case.field-0.case c.in_ok-case.field-0.outcome
    c.requires.made c.in_ok-case.ensures.case c.in_ok-case.ensures.valid c.in_ok-case.ensures.right is
