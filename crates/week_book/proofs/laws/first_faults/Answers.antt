use Rattle.std.proofs.Common.{[]}
use Rattle.week_book.specs.Ranges.{range_of}
use Rattle.week_book.specs.Keys.{double_of}
use Rattle.week_book.proofs.Firsts.{first_is, number_place}
use Rattle.week_book.proofs.laws.first_faults.Goals as goal

pub returns : goal.returns
returns c = record {
  number = number_place;
  range = λ rows e is. first_is range_of [] rows e is;
  double = λ rows e is. first_is double_of [] rows e is;
}
