use Rattle.std.proofs.Common.{◌≡◌, ◌+◌, ◌-◌, take, length}
use Rattle.csv.specs.Records.{fields_of}
use Rattle.desk_csv.specs.Fields.{numbers_at}
use Rattle.desk_csv.proofs.Fronts.{with_front}
use Rattle.desk_csv.proofs.fields.sixteen.Given as goal

abbrev pub invariant-loop-i : goal.invariant-loop-i
invariant-loop-i l = record {
  left : with_front (take l.i l.numbers) (numbers_at l.row (l.i + 4) (16 - l.i) (fields_of l.fields)) ≡ numbers_at l.row 4 16 (fields_of l.fields);
  long : length l.numbers ≡ 16;
}
