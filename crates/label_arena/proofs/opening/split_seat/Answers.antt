use Rattle.std.proofs.Common.{rules}
use Rattle.label_arena.proofs.Splitting.{splits}
use Rattle.label_arena.proofs.opening.split_seat.Goals as goal

pub split_seat-token-requires : goal.split_seat-token-requires
split_seat-token-requires g c = (search rules, search rules, splits _ _ _ _ c.requires.part.0 c.requires.part.1 c.requires.part.2)
