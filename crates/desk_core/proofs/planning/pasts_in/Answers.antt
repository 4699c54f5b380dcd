use Rattle.std.proofs.Common.{option_map}
use Rattle.minute_line.specs.Histories.{fields_of}
use Rattle.desk_core.specs.Books.{gathered}
use Rattle.desk_core.specs.Planning.{past_or_refusal}
use Rattle.desk_core.proofs.Stopping.{handed-on, meets-stop, pasts-stop, pasts-on}
use Rattle.desk_core.proofs.planning.pasts_in.Goals as goal

pub returns-in_err-past-clause-pasts : goal.returns-in_err-past-clause-pasts
returns-in_err-past-clause-pasts c =
    handed-on gathered c.from_residual.result c.in_err-past.field-0.0 _ c.from_residual.ensures
    (meets-stop (option_map fields_of) gathered c.in_err-past.field-0.0 (past_or_refusal c.args.rows.now c.driver-item.result.name) _
    (λ refusal refused.
    pasts-stop c.args.rows.now (gathered c.loop-driver.pasts) c.args.drivers.now c.loop-driver.driver-index c.driver-item.result c.driver-item.result refusal
    c.loop-driver-test.true c.driver-item.is c.loop-driver.invariant refused)
    c.in_err-past.ensures.past)

pub loop-driver-preserved : goal.loop-driver-preserved
loop-driver-preserved c =
    pasts-on c.args.rows.now (gathered c.loop-driver.pasts) (gathered c.add_driver.new.pasts) c.args.drivers.now c.loop-driver.driver-index
    c.driver-item.result c.driver-item.result (option_map fields_of c.in_ok-past.past) c.loop-driver-test.true c.driver-item.is c.loop-driver.invariant
    c.in_ok-past.ensures.past c.in_ok-add_driver.ensures
