use Rattle.std.proofs.Common.{◌≡◌, drop, []}
use Rattle.desk_core.specs.Checking.{drivers_said}
use Rattle.desk_core.proofs.checking.lines_in.Given as goal

abbrev pub invariant-loop-name : goal.invariant-loop-name
invariant-loop-name l =
    drivers_said l.rows l.lines (drop l.name-index l.names) ≡ drivers_said l.rows [] l.names
