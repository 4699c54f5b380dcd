use Rattle.std.proofs.Common.{map}
use Rattle.desk_keeper.specs.Tables.{driver_fields, AreNamedOnce}
use Rattle.keeper_sqlite.proofs.drafts.drivers_from.Given as goal

abbrev pub invariant-loop-row : goal.invariant-loop-row
invariant-loop-row l = AreNamedOnce (map driver_fields l.drivers)
