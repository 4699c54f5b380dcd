use Rattle.std.proofs.Common.{reverse}
use Rattle.desk_report.specs.Steps.{StaysInWeek}
use Rattle.desk_report.proofs.WalkingSteps.{step-at}
use Rattle.desk_report.proofs.duty_rows.add_duty.Goals as goal

pub add_step-requires : goal.add_step-requires
add_step-requires c =
    let all : StaysInWeek c.args.week.now (reverse c.as_slice-step-items.result.now) = rw c.as_slice-step-items.ensures c.requires in
    (step-at c.args.week.now c.as_slice-step-items.result.now c.loop-step.step-index _ c.loop-step.here.at c.loop-step.here.place all c.loop-step-test.true c.loop-step.invariant.at c.loop-step.invariant.place).starts

pub after-here-requires : goal.after-here-requires
after-here-requires c =
    let all : StaysInWeek c.args.week.now (reverse c.as_slice-step-items.result.now) = rw c.as_slice-step-items.ensures c.requires in
    (step-at c.args.week.now c.as_slice-step-items.result.now c.loop-step.step-index _ c.loop-step.here.at c.loop-step.here.place all c.loop-step-test.true c.loop-step.invariant.at c.loop-step.invariant.place).ends
