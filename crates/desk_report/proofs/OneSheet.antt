-- The text of rows says the rows: `csv` reads back what it wrote.
use Rattle.std.proofs.Common.{◌≡◌, ℕ, List, [], ◌∷◌, ◌++◌, Option, Some, None, refl, ap, sym, ◌∙◌}
use Rattle.csv.specs.declared.parser.State.{State}
use Rattle.csv.specs.declared.parser.State.TheVariants as st
use Rattle.csv.specs.Machine.{next_record}
use Rattle.csv.specs.Reading.{default_config}
use Rattle.csv.specs.Writing.{default_writer, escaped, field_text, fields_text, is_blank, row_text, read_back}
use Rattle.csv.proofs.RoundTrip.{read-write}
use Rattle.desk_report.specs.Rows.{Fields, row_writer, rows_text}

-- rows of any lengths are written as rows of one length are
same-escaped : (field : List ℕ) → escaped row_writer field ≡ escaped default_writer field
unfolding escaped
same-escaped [] = refl
same-escaped (byte ∷ field) = rw (same-escaped field) refl

same-field : (field : List ℕ) → field_text row_writer field ≡ field_text default_writer field
same-field field = rw (same-escaped field) refl

same-fields : (fields : Fields) → fields_text row_writer fields ≡ fields_text default_writer fields
unfolding fields_text
same-fields [] = refl
same-fields (field ∷ fields) = rw (same-field field, same-fields fields) refl

same-row : (row : Fields) → row_text row_writer row ≡ row_text default_writer row
unfolding is_blank
same-row [] = refl
same-row (field ∷ []) = rw (same-field field, same-fields []) refl
same-row (field ∷ next ∷ fields) = rw (same-field field, same-fields (next ∷ fields)) refl

abbrev first_record : List ℕ → Option (Fields × State × List ℕ)
first_record text = next_record default_config st.StartRecord [] [] text

reads : (row : Fields) (tail : List ℕ) → first_record (row_text row_writer row ++ tail) ≡ Some (read_back row, st.StartRecord, tail)
reads row tail = rw (same-row row) (read-write row tail)

reads-none : first_record [] ≡ None
unfolding next_record
reads-none = refl

abbrev row_or : Fields → Option (Fields × State × List ℕ) → Fields
row_or other None = other
row_or other (Some (row, state, tail)) = row

abbrev tail_or : Option (Fields × State × List ℕ) → List ℕ
tail_or None = []
tail_or (Some (row, state, tail)) = tail

-- each row has a field
abbrev pub HaveFields : List Fields → Type 0
HaveFields [] = Unit {0}
HaveFields (row ∷ rows) = (read_back row ≡ row) × HaveFields rows

-- one text is the text of one list of rows
pub one-sheet : (rows others : List Fields) → HaveFields rows → HaveFields others → rows_text rows ≡ rows_text others → rows ≡ others
one-sheet [] [] h k e = refl
one-sheet [] (row ∷ others) h k e =
    let none : None ≡ Some (read_back row, st.StartRecord, rows_text others) = sym reads-none ∙ ap first_record e ∙ reads row (rows_text others) in cc none
one-sheet (row ∷ rows) [] h k e =
    let none : Some (read_back row, st.StartRecord, rows_text rows) ≡ None = sym (reads row (rows_text rows)) ∙ ap first_record e ∙ reads-none in cc none
one-sheet (row ∷ rows) (other ∷ others) h k e =
    let both : Some (read_back row, st.StartRecord, rows_text rows) ≡ Some (read_back other, st.StartRecord, rows_text others) =
    sym (reads row (rows_text rows)) ∙ ap first_record e ∙ reads other (rows_text others) in
    let head : row ≡ other = sym h.0 ∙ ap (row_or []) both ∙ k.0 in
    ap (λ r. r ∷ rows) head ∙ ap (λ rs. other ∷ rs) (one-sheet rows others h.1 k.1 (ap tail_or both))
