use Rattle.std.proofs.Common.{◌≡◌, ◌<◌, ◌^◌, drop}
use Rattle.desk_csv.specs.Fields.{digits_from}
use Rattle.desk_csv.proofs.fields.read_digits.Given as goal

abbrev pub invariant-loop-byte : goal.invariant-loop-byte
invariant-loop-byte l = record {
  left : digits_from l.number (drop l.byte-index l.text) ≡ digits_from 0 l.text;
  small : l.number < 10 ^ l.byte-index;
}
