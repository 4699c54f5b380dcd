use Rattle.std.proofs.Common.{◌≡◌, map, take}
use Rattle.desk_keeper.specs.Memory.{row_fields}
use Rattle.desk_keeper.proofs.memory.copy_rows.Given as goal

abbrev pub invariant-loop-row : goal.invariant-loop-row
invariant-loop-row l = map row_fields l.copies ≡ map row_fields (take l.row-index l.rows)
