-- Rows of an export: fields, as `csv` writes them.
use Rattle.std.specs.Prelude.{ℕ, true, List}
use Rattle.std.specs.List.{flat_map}
use Rattle.csv.specs.declared.writer.WriterBuilder.{WriterBuilder}
use Rattle.csv.specs.Writing.{default_writer, with_flexible, row_text}

-- a row, each field as its bytes
abbrev pub Fields : Type 0
Fields = List (List ℕ)

-- rows of any lengths are written with the defaults of `csv`: commas, and a line feed at the end
abbrev pub row_writer : WriterBuilder
row_writer = with_flexible default_writer true

-- the text of rows
abbrev pub rows_text : List Fields → List ℕ
rows_text rows = flat_map (row_text row_writer) rows
