use Rattle.std.proofs.Common.{◌≡◌, drop}
use Rattle.desk_core.specs.Planning.{pasts_said, nobody}
use Rattle.desk_core.specs.Books.{gathered}
use Rattle.desk_core.proofs.planning.pasts_in.Given as goal

abbrev pub invariant-loop-driver : goal.invariant-loop-driver
invariant-loop-driver l =
    pasts_said l.rows (gathered l.pasts) (drop l.driver-index l.drivers) ≡ pasts_said l.rows nobody l.drivers
