use Rattle.desk_keeper.proofs.Moving.{moved_more}
use Rattle.desk_keeper.specs.Memory.{row_fields}
use Rattle.std.proofs.Common.{map}
use Rattle.desk_keeper.proofs.memory.moved_rows.Goals as goal

pub loop-driver-preserved : goal.loop-driver-preserved
loop-driver-preserved c =
    moved_more c.args.monday.day c.args.drivers.now c.loop-driver.driver-index c.driver-item.result c.driver-item.result (map row_fields c.loop-driver.moved)
    (map row_fields c.put_row.new.rows) _ (row_fields c.in_ok-row_for.field-0) c.loop-driver-test.true c.driver-item.is c.loop-driver.invariant c.in_ok-row_for.ensures
    c.in_ok-put_row.ensures
