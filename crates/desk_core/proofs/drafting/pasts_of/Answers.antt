use Rattle.std.proofs.Common.{map, option_map, arith, length, ap, length-append}
use Rattle.minute_line.specs.Histories.{fields_of}
use Rattle.desk_core.specs.Planning.{past_or_refusal}
use Rattle.desk_core.proofs.Stopping.{handed-on, meets-stop}
use Rattle.desk_core.proofs.Histories.{read-stop, read-on, viewed-more}
use Rattle.desk_core.proofs.drafting.pasts_of.Goals as goal

pub returns-in_err-past_in-clause-read : goal.returns-in_err-past_in-clause-read
returns-in_err-past_in-clause-read c =
    handed-on (map (option_map fields_of)) c.from_residual.result c.in_err-past_in.field-0.0 _ c.from_residual.ensures
    (meets-stop (option_map fields_of) (map (option_map fields_of)) c.in_err-past_in.field-0.0 (past_or_refusal c.args.rows.now c.driver-item.result.name) _
    (λ refusal refused.
    read-stop c.args.rows.now (map (option_map fields_of) c.loop-driver.pasts) c.args.drivers.now c.loop-driver.driver-index c.driver-item.result c.driver-item.result refusal
    c.loop-driver-test.true c.driver-item.is c.loop-driver.invariant.read refused)
    c.in_err-past_in.ensures.past)

pub loop-driver-preserved : goal.loop-driver-preserved
loop-driver-preserved c = record {
  read = read-on c.args.rows.now (map (option_map fields_of) c.loop-driver.pasts) (map (option_map fields_of) c.push.new.self) c.args.drivers.now c.loop-driver.driver-index
      c.driver-item.result c.driver-item.result (option_map fields_of c.in_ok-past_in.field-0) c.loop-driver-test.true c.driver-item.is c.loop-driver.invariant.read
      c.in_ok-past_in.ensures.past (viewed-more (option_map fields_of) c.loop-driver.pasts c.push.new.self c.in_ok-past_in.field-0 c.in_ok-push.ensures.ok);
  each = omega (arith, simp length-append at (ap length c.in_ok-push.ensures.ok));
}
