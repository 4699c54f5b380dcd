use Rattle.std.proofs.Common.{◌≡◌, map, drop}
use Rattle.desk_keeper.specs.Tables.{driver_fields}
use Rattle.desk_keeper.specs.Memory.{row_fields}
use Rattle.desk_keeper.specs.Changes.{moved_on}
use Rattle.desk_keeper.proofs.memory.moved_rows.Given as goal

abbrev pub invariant-loop-driver : goal.invariant-loop-driver
invariant-loop-driver l =
    moved_on l.monday.day (map driver_fields (drop l.driver-index l.drivers)) (map row_fields l.moved)
    ≡ moved_on l.monday.day (map driver_fields l.drivers) (map row_fields l.rows)
