use Rattle.std.proofs.Common.{◌≡◌, [], fold, take}
use Rattle.week_book.specs.Driven.{meet}
use Rattle.week_book.proofs.driven.driven.Given as goal

abbrev pub invariant-loop-row : goal.invariant-loop-row
invariant-loop-row l = l.names ≡ fold meet [] (take l.row-index l.rows)
