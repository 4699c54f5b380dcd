use Rattle.std.proofs.Common.{◌≡◌, map, take}
use Rattle.desk_keeper.specs.Tables.{driver_fields}
use Rattle.desk_keeper.proofs.copies.copy_drivers.Given as goal

abbrev pub invariant-loop-driver : goal.invariant-loop-driver
invariant-loop-driver l = map driver_fields l.copies ≡ map driver_fields (take l.driver-index l.drivers)
