use Rattle.std.proofs.Common.{◌≡◌, ◌∙◌, sym, refl, arith, Some, length, reverse, take, slice_get, Err}
use Rattle.std.proofs.lemmas.List.{take_all}
use Rattle.std.proofs.lemmas.Option.{slice_get_read}
use Rattle.week_book.specs.Weeks.{driver_of, IsDriver}
use Rattle.duty_plan.proofs.WeekLimits.{all-slice_get, bounded}
use Rattle.duty_plan.proofs.Judging.{early-fault, stands-more, whole-duty, verdict-clauses}
use Rattle.duty_plan.proofs.checks.check_steps.Goals as goal

pub loop-step-init : goal.loop-step-init
loop-step-init c = c.begin-check.ensures c.args.case.now.week c.index-as_slice-driver-2.result

pub loop-step-preserved : goal.loop-step-preserved
loop-step-preserved c =
    stands-more c.args.case.now.week c.index-as_slice-driver-2.result c.index-as_slice-driver.result c.in-Ok.next c.args.steps.now c.loop-step.step-index _ _
    (c.in-Ok.ensures (reverse (take c.loop-step.step-index c.args.steps.now)) c.loop-step.invariant) c.loop-step-test.true refl

pub returns-in-Err : goal.returns-in-Err
returns-in-Err c =
    let history : slice_get c.args.case.now.past c.args.driver ≡ Some c.index-as_slice-driver.result =
    slice_get_read c.args.case.now.past (length c.args.case.now.week.drivers) c.args.driver c.index-as_slice-driver.result
    (sym c.requires.case.drivers) c.requires.driver (rw c.as_slice.ensures at c.index-as_slice-driver.is) in
    let lorry : driver_of c.args.case.now.week c.args.driver ≡ Some c.index-as_slice-driver-2.result =
    slice_get_read c.args.case.now.week.drivers (length c.args.case.now.week.drivers) c.args.driver c.index-as_slice-driver-2.result
    refl c.requires.driver (rw c.as_slice-2.ensures at c.index-as_slice-driver-2.is) in
    let says = verdict-clauses c.args.case.now c.args.driver (record { steps = c.args.steps.now }) (Err c.in-Err.fault)
    (sym (early-fault c.args.case.now c.args.driver c.index-as_slice-driver-2.result c.index-as_slice-driver.result (record { steps = c.args.steps.now }) c.args.steps.now
    c.loop-step.step-index _ _ c.in-Err.fault lorry history refl c.loop-step.invariant.office
    (c.in-Err.ensures (reverse (take c.loop-step.step-index c.args.steps.now)) c.loop-step.invariant) c.loop-step-test.true refl)) in
    record { verdict = says.verdict; lawful = says.lawful; cost = says.cost }

pub returns : goal.returns
returns c =
    let history : slice_get c.args.case.now.past c.args.driver ≡ Some c.index-as_slice-driver.result =
    slice_get_read c.args.case.now.past (length c.args.case.now.week.drivers) c.args.driver c.index-as_slice-driver.result
    (sym c.requires.case.drivers) c.requires.driver (rw c.as_slice.ensures at c.index-as_slice-driver.is) in
    let lorry : driver_of c.args.case.now.week c.args.driver ≡ Some c.index-as_slice-driver-2.result =
    slice_get_read c.args.case.now.week.drivers (length c.args.case.now.week.drivers) c.args.driver c.index-as_slice-driver-2.result
    refl c.requires.driver (rw c.as_slice-2.ensures at c.index-as_slice-driver-2.is) in
    let all : take c.loop-step.step-index c.args.steps.now ≡ c.args.steps.now =
    take_all c.loop-step.step-index c.args.steps.now c.loop-step-test.false in
    let says = verdict-clauses c.args.case.now c.args.driver (record { steps = c.args.steps.now }) c.end.result
    (c.end.ensures ∙ whole-duty c.args.case.now c.args.driver c.index-as_slice-driver-2.result c.index-as_slice-driver.result (record { steps = c.args.steps.now }) c.loop-step.check lorry history
    (rw all at c.loop-step.invariant)) in
    record { verdict = says.verdict; lawful = says.lawful; cost = says.cost }

pub end-requires : goal.end-requires
end-requires c =
    let lorry : driver_of c.args.case.now.week c.args.driver ≡ Some c.index-as_slice-driver-2.result =
    slice_get_read c.args.case.now.week.drivers (length c.args.case.now.week.drivers) c.args.driver c.index-as_slice-driver-2.result
    refl c.requires.driver (rw c.as_slice-2.ensures at c.index-as_slice-driver-2.is) in
    let d : IsDriver c.index-as_slice-driver-2.result = all-slice_get IsDriver c.args.case.now.week.drivers c.args.driver c.index-as_slice-driver-2.result c.requires.case.week.drivers lorry in
    let b = bounded c.args.case.now.week c.index-as_slice-driver-2.result c.index-as_slice-driver.result _ c.loop-step.check c.requires.case.week d c.loop-step.invariant in
    omega (arith, b.cents, d.fee)
