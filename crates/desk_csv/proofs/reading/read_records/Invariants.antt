use Rattle.std.proofs.Common.{length, [], unwrap_or}
use Rattle.csv.specs.Reading.{source_of}
use Rattle.desk_csv.proofs.Standing.{Stands, known}
use Rattle.desk_csv.proofs.reading.read_records.Given as goal

abbrev pub invariant-loop-rows : goal.invariant-loop-rows
invariant-loop-rows l = Stands l.form l.text l.reader l.first l.rows

-- the bytes that are left
abbrev pub decreases-loop-rows : goal.decreases-loop-rows
decreases-loop-rows l = length (unwrap_or (source_of known l.reader) [])
