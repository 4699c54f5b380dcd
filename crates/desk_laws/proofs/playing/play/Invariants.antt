use Rattle.std.proofs.Common.{◌≡◌, ◌≤◌, length, take, vec_capacity}
use Rattle.desk_core.specs.Machine.{Replied}
use Rattle.desk_laws.specs.Playing.{failed_after_all}
use Rattle.desk_laws.proofs.Played.{AreSaid}
use Rattle.desk_laws.proofs.playing.play.Given as goal

abbrev pub invariant-loop-command : goal.invariant-loop-command
invariant-loop-command g l = record {
  each : length l.replies.items ≡ l.command-index;
  room : length l.commands ≤ vec_capacity l.replies;
  said : AreSaid l.replies.items;
  replied : Replied (take l.command-index l.commands) (g.B.Keeper.tables l.fn.keeper) l.replies.items (g.B.Keeper.tables l.keeper);
  counts : g.B.Keeper.faults l.keeper ≡ failed_after_all (g.B.Keeper.faults l.fn.keeper) l.replies.items;
}
