use Rattle.std.proofs.Common.{◌≡◌, drop, slice_get}
use Rattle.std.specs.List.{filter_map}
use Rattle.week_book.specs.Pasts.{rest_said}
use Rattle.driver_history.proofs.rests.find_rest.Given as goal

abbrev pub invariant-loop-row : goal.invariant-loop-row
invariant-loop-row l = slice_get (filter_map (rest_said l.name) (drop l.row-index l.rows)) 0 ≡ slice_get (filter_map (rest_said l.name) l.rows) 0
