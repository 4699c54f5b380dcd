use Rattle.std.proofs.Common.{refl, reverse}
use Rattle.duty_plan.proofs.Stretches.{place-more}
use Rattle.desk_report.specs.Steps.{StaysInWeek}
use Rattle.desk_report.proofs.FindingServices.{start-more, start-in-week}
use Rattle.desk_report.proofs.WalkingSteps.{step-at, at-more}
use Rattle.desk_report.proofs.services.start_in.Goals as goal

pub start_at-found-requires : goal.start_at-found-requires
start_at-found-requires c =
    let all : StaysInWeek c.args.week.now (reverse c.as_slice-step-items.result.now) = rw c.as_slice-step-items.ensures c.requires in
    (step-at c.args.week.now c.as_slice-step-items.result.now c.loop-step.step-index _ c.loop-step.here.at c.loop-step.here.place all c.loop-step-test.true c.loop-step.invariant.at c.loop-step.invariant.place).starts

pub after-here-requires : goal.after-here-requires
after-here-requires c =
    let all : StaysInWeek c.args.week.now (reverse c.as_slice-step-items.result.now) = rw c.as_slice-step-items.ensures c.requires in
    (step-at c.args.week.now c.as_slice-step-items.result.now c.loop-step.step-index _ c.loop-step.here.at c.loop-step.here.place all c.loop-step-test.true c.loop-step.invariant.at c.loop-step.invariant.place).ends

pub loop-step-preserved : goal.loop-step-preserved
loop-step-preserved c =
    let week = c.args.week.now in
    let steps = c.as_slice-step-items.result.now in
    let i = c.loop-step.step-index in
    let inv = c.loop-step.invariant in
    let all : StaysInWeek week (reverse steps) = rw c.as_slice-step-items.ensures c.requires in
    let below = c.loop-step-test.true in record {
      start =
          start-more week steps i _ _ c.loop-step.here.at c.args.order c.loop-step.found c.start_at-found.result below refl
          inv.at inv.start c.start_at-found.ensures;
      in_week = start-in-week _ _ c.loop-step.found c.start_at-found.result c.start_at-found.ensures
          (step-at week steps i _ c.loop-step.here.at c.loop-step.here.place all below inv.at inv.place).starts inv.in_week;
      at =
          at-more week steps i _ _ c.loop-step.here.at c.loop-step.here.place c.after-here.result.at below refl
          c.after-here.ensures.at inv.at inv.place;
      place = place-more steps i _ _ c.loop-step.here.place c.after-here.result.place c.after-here.ensures.place inv.place below refl;
    }
