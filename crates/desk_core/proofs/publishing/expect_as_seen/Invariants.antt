use Rattle.std.proofs.Common.{◌≡◌, IfSome}
use Rattle.desk_core.proofs.Seeing.{AreSeenBelow}
use Rattle.desk_core.proofs.publishing.expect_as_seen.Given as goal

abbrev pub invariant-loop-driver : goal.invariant-loop-driver
invariant-loop-driver g l = record {
  tables : g.B.Keeper.tables l.keeper ≡ g.B.Keeper.tables l.fn.keeper;
  counts : g.B.Keeper.faults l.keeper ≡ g.B.Keeper.faults l.fn.keeper;
  seen : IfSome (g.B.Keeper.tables l.fn.keeper) (AreSeenBelow l.drivers l.driver-index);
}
