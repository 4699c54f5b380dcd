use Rattle.std.proofs.Common.{arith, refl}
use Rattle.hours_rules.specs.Verdicts.{past_of}
use Rattle.duty_plan.specs.PartialDuties.{line_after}
use Rattle.duty_plan.proofs.WeekLimits.{bounded}
use Rattle.duty_plan.proofs.Stepping.{fault-numbered, goes-check, small-taken, stands-step}
use Rattle.duty_plan.proofs.duty_checks.DutyCheck.after.Goals as goal

pub returns-in-Ok : goal.returns-in-Ok
returns-in-Ok c = λ before s.
    let t = c.in-Ok.ensures before s.office s.position in
    stands-step c.args.week.now c.args.driver.now c.args.history.now before c.args.self.now _ c.args.step.now c.in-Ok.taken s t refl refl refl
    (rw c.mark.ensures.mark at (c.hours_after.ensures (past_of c.args.history.now) (line_after c.args.week.now before) s.hours))

pub returns-in-Err : goal.returns-in-Err
returns-in-Err c = λ before s.
    fault-numbered c.args.week.now c.args.history.now.open_off c.args.driver.now.capacity c.args.step.now before c.in-Err.fault
    (rw s.steps at (c.in-Err.ensures before s.office s.position))

pub overflow_add-result : goal.overflow_add-result
overflow_add-result c =
    let h = c.requires.stands in
    let b = bounded c.args.week.now c.args.driver.now c.args.history.now h.partial c.args.self.now c.requires.week c.requires.driver h.stands in
    omega (arith, b.steps)

pub overflow_add-result-in-Ok : goal.overflow_add-result-in-Ok
overflow_add-result-in-Ok c =
    let h = c.requires.stands in
    let b = bounded c.args.week.now c.args.driver.now c.args.history.now h.partial c.args.self.now c.requires.week c.requires.driver h.stands in
    let t = c.in-Ok.ensures h.partial h.stands.office h.stands.position in
    omega (arith, b.cents, (small-taken c.args.week.now c.args.history.now.open_off c.args.driver.now.capacity h.partial c.args.step.now c.in-Ok.taken c.requires.week t).cheap)

pub hours_after-requires-clause-some : goal.hours_after-requires-clause-some
hours_after-requires-clause-some c =
    let h = c.requires.stands in
    let t = c.in-Ok.ensures h.partial h.stands.office h.stands.position in
    omega (arith, (small-taken c.args.week.now c.args.history.now.open_off c.args.driver.now.capacity h.partial c.args.step.now c.in-Ok.taken c.requires.week t).some)

pub hours_after-requires-clause-clock : goal.hours_after-requires-clause-clock
hours_after-requires-clause-clock c = λ clock e.
    (goes-check c.args.week.now c.args.driver.now c.args.history.now c.args.step.now c.args.self.now c.in-Ok.taken clock c.requires.week c.requires.stands c.in-Ok.ensures e).clock_stands

pub hours_after-requires-clause-end : goal.hours_after-requires-clause-end
hours_after-requires-clause-end c = λ clock e.
    (goes-check c.args.week.now c.args.driver.now c.args.history.now c.args.step.now c.args.self.now c.in-Ok.taken clock c.requires.week c.requires.stands c.in-Ok.ensures e).end

pub hours_after-requires-clause-ready : goal.hours_after-requires-clause-ready
hours_after-requires-clause-ready c = λ clock e.
    (goes-check c.args.week.now c.args.driver.now c.args.history.now c.args.step.now c.args.self.now c.in-Ok.taken clock c.requires.week c.requires.stands c.in-Ok.ensures e).ready

pub hours_after-requires-clause-run : goal.hours_after-requires-clause-run
hours_after-requires-clause-run c = λ clock e.
    (goes-check c.args.week.now c.args.driver.now c.args.history.now c.args.step.now c.args.self.now c.in-Ok.taken clock c.requires.week c.requires.stands c.in-Ok.ensures e).run
