use Rattle.std.proofs.Common.{◌≡◌, false, take, Some}
use Rattle.csv.specs.Writing.{writer_setup, fields_written, has_written, text_written}
use Rattle.desk_report.specs.Rows.{row_writer, rows_text}
use Rattle.desk_report.proofs.rows.write_rows.Given as goal

abbrev pub invariant-loop-row : goal.invariant-loop-row
invariant-loop-row l = record {
  setup : writer_setup l.writer ≡ row_writer;
  fields : fields_written l.writer ≡ 0;
  wrote : has_written l.writer ≡ false;
  text : text_written (λ v. Some v.items) l.writer ≡ Some (rows_text (take l.row-index l.rows));
}
