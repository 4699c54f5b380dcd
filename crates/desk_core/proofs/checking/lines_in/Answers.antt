use Rattle.desk_core.specs.Checking.{driver_said}
use Rattle.desk_core.proofs.Stopping.{handed-on, meets-stop, lines-stop, lines-on}
use Rattle.desk_core.proofs.checking.lines_in.Goals as goal

pub returns-in_err-push_driver-clause-lines : goal.returns-in_err-push_driver-clause-lines
returns-in_err-push_driver-clause-lines c =
    handed-on (λ lines. lines) c.from_residual.result c.in_err-push_driver.field-0.0 _ c.from_residual.ensures
    (meets-stop {A = Unit {0}} (λ _. c.push_driver.new.text) (λ lines. lines) c.in_err-push_driver.field-0.0 (driver_said c.args.rows.now c.loop-name.lines c.name-item.result) _
    (λ refusal refused.
    lines-stop c.args.rows.now c.loop-name.lines c.args.names.now c.loop-name.name-index c.name-item.result c.name-item.result refusal
    c.loop-name-test.true c.name-item.is c.loop-name.invariant refused)
    c.in_err-push_driver.ensures.line)

pub loop-name-preserved : goal.loop-name-preserved
loop-name-preserved c =
    lines-on c.args.rows.now c.loop-name.lines c.push_driver.new.text c.args.names.now c.loop-name.name-index c.name-item.result c.name-item.result
    c.loop-name-test.true c.name-item.is c.loop-name.invariant c.in_ok-push_driver.ensures.line
