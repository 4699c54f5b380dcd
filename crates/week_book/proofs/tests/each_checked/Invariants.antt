use Rattle.std.proofs.Common.{◌≡◌, drop}
use Rattle.std.specs.List.{list_all}
use Rattle.week_book.specs.Texts.{is_checked}
use Rattle.week_book.proofs.tests.each_checked.Given as goal

abbrev pub invariant-loop-row : goal.invariant-loop-row
invariant-loop-row l = list_all is_checked (drop l.row-index l.rows) ≡ list_all is_checked l.rows
