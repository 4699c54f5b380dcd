use Rattle.std.proofs.Common.{arith}
use Rattle.label_arena.proofs.Rows.{stands}
use Rattle.label_arena.proofs.turning.taken_after.Goals as goal

pub counting-init : goal.counting-init
counting-init c = let there = stands _ _ c.requires in (there.0, omega arith, there.2)
