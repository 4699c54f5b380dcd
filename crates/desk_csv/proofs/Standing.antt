-- Where a loop over a text's records stands.
use Rattle.std.proofs.Common.{◌≡◌, ◌∙◌, ℕ, ◌+◌, ◌<◌, ◌≤◌, List, [], ◌∷◌, ◌++◌, length, Bool, true, false, Option, Some, None, Ok, Err, Bor, unwrap_or, inl, refl, ap, arith}
use Rattle.csv.specs.Machine.{Read, next_record}
use Rattle.csv.specs.Reading.{NextIs, ReadsNext, ReadRecord, Reached, Ready, default_config, source_of, pending_of, strip_bom}
use Rattle.csv.specs.declared.reader.Reader.{Reader}
use Rattle.csv.specs.declared.reader.Trim.TheVariants as trim
use Rattle.csv.specs.declared.parser.State.{State}
use Rattle.csv.specs.declared.parser.State.TheVariants as st
use Rattle.csv.proofs.ReadFacts.{rows-more, rows-end}
use Rattle.minute_line.specs.declared.dates.Monday.{Monday}
use Rattle.week_book.specs.declared.rows.Row.{Row}
use Rattle.desk_csv.specs.declared.errors.Form.{Form}
use Rattle.desk_csv.specs.declared.errors.CsvError.{CsvError}
use Rattle.desk_csv.specs.declared.errors.CsvError.TheVariants as fault
use Rattle.desk_csv.specs.Fields.{Record}
use Rattle.desk_csv.specs.RowKinds.{row_at}
use Rattle.desk_csv.specs.Reading.{records_of, monday_for, rows_in}
use Rattle.desk_csv.proofs.RecordSteps.{takes, narrow, few, all_read, next_read}
use Rattle.desk_csv.proofs.Begun.{Begun, begun_length, begun_more, begun_no_monday, begun_fault, begun_all, begun_none}

-- a reader over bytes
abbrev pub BytesReader : Type 0
BytesReader = Reader (Bor (List ℕ))

-- the bytes that the reader is over
abbrev pub known : Bor (List ℕ) → Option (List ℕ)
known s = Some s.now

-- the reader reads records of any length as they stand, and what it has left is known
pub record Reads (reader : BytesReader) (left : List ℕ) : Type 0 where
  pub config : reader.config ≡ default_config
  pub trim : reader.trim ≡ trim.None
  pub flexible : reader.flexible ≡ true
  pub ready : Ready reader
  pub source : source_of known reader ≡ Some left

-- these rows are those of the records that were read, and the reader has the bytes after them
pub record Stands (form : Form) (text : List ℕ) (reader : BytesReader) (first : Option Monday) (rows : List Row) : Type 0 where
  pub past : List Record
  pub left : List ℕ
  pub begun : Begun form past rows first
  pub reads : Reads reader left
  pub reached : Reached default_config st.StartRecord (strip_bom text) past reader.state left

is_next : (o : Option Read) (f : Record) (s : State) (z : List ℕ) → NextIs o true f s z → (p : Read) × (o ≡ Some p) × (f ≡ p.0) × (s ≡ p.1) × (z ≡ p.2)
is_next None f s z n = cc n
is_next (Some p) f s z n = (p, refl, n.1, n.2, n.3)

next_known : (s s2 : State) (y : List ℕ) (k : Option (List ℕ)) (f : Record) → ReadsNext default_config s (Some y) k true f s2
    → (p : Read) × (next_record default_config s [] [] y ≡ Some p) × (f ≡ p.0) × (s2 ≡ p.1) × (k ≡ Some p.2)
next_known s s2 y None f r = absurd r
next_known s s2 y (Some z) f r = let n = is_next (next_record default_config s [] [] y) f s2 z r in (n.0, n.1, n.2, n.3, ap Some n.4)

-- the record that a read found
pub record Found (old new : BytesReader) (y : List ℕ) (fields : Record) : Type 0 where
  pub next : Read
  pub is : next_record default_config old.state [] [] y ≡ Some next
  pub same : fields ≡ next.0
  pub reads : Reads new next.2
  pub read : ReadRecord known old new true fields
  pub took : new.first ≡ true

pub found_record : (old new : BytesReader) (y : List ℕ) (fields : Record) → Reads old y → ReadRecord known old new true fields → new.first ≡ true → new.flexible ≡ true → Found old new y fields
found_record old new y fields reads r took flexible =
    let p = next_known old.state new.state y (pending_of (known new.rdr) new) fields (rw (reads.config, reads.source) at r.0) in
    record {
      next = p.0;
      is = p.1;
      same = p.2;
      reads = record { config = r.2 ∙ reads.config; trim = r.3 ∙ reads.trim; flexible = flexible; ready = inl took; source = rw r.1 p.4 };
      read = r;
      took = took;
    }

-- what a call that reads a record says, once it found one
pub found_next : (form : Form) (text : List ℕ) (old new : BytesReader) (first : Option Monday) (rows : List Row) (fields : Record) (is : Bool)
    → (h : Stands form text old first rows) → ReadRecord known old new is fields → new.first ≡ true → new.flexible ≡ true → is ≡ true → Found old new h.left fields
found_next form text old new first rows fields is h read took flexible is_found = found_record old new h.left fields h.reads (rw is_found at read) took flexible

strip_le : (text : List ℕ) → length (strip_bom text) ≤ length text
unfolding strip_bom
strip_le [] = omega arith
strip_le (a ∷ []) = omega arith
strip_le (a ∷ b ∷ []) = omega arith
strip_le (a ∷ b ∷ c ∷ rest) = grind arith

-- a text of so many bytes has no more records
pub stands_few : (form : Form) (text : List ℕ) (reader : BytesReader) (first : Option Monday) (rows : List Row)
    → Stands form text reader first rows → length rows ≤ length text
stands_few form text reader first rows h =
    let bound = (few st.StartRecord reader.state (strip_bom text) h.left h.past refl h.reached).0 in
    omega (arith, bound, strip_le text, begun_length form h.past rows first h.begun)

-- nor has a record many more fields
pub stands_narrow : (form : Form) (text : List ℕ) (old new : BytesReader) (first : Option Monday) (rows : List Row) (fields : Record)
    → (h : Stands form text old first rows) → Found old new h.left fields → length fields ≤ length text + 1
stands_narrow form text old new first rows fields h found =
    let bound = (few st.StartRecord old.state (strip_bom text) h.left h.past refl h.reached).0 in
    let wide = narrow old.state [] [] h.left found.next found.is in
    omega (arith, bound, wide, strip_le text, ap length found.same)

-- what is left becomes less
pub stands_less : (form : Form) (text : List ℕ) (old new : BytesReader) (first : Option Monday) (rows : List Row) (fields : Record)
    → (h : Stands form text old first rows) → Found old new h.left fields
    → length (unwrap_or (source_of known new) []) < length (unwrap_or (source_of known old) [])
stands_less form text old new first rows fields h found =
    let rests = (few st.StartRecord old.state (strip_bom text) h.left h.past refl h.reached).1 in
    let less = takes old.state [] [] h.left found.next rests found.is in
    rw (found.reads.source, h.reads.source) less

-- a record was read as a row
pub stands_more : (form : Form) (text : List ℕ) (old new : BytesReader) (first : Option Monday) (rows : List Row) (fields : Record) (monday : Monday) (row : Row)
    → (h : Stands form text old first rows) → Found old new h.left fields → monday_for first fields ≡ Ok monday → row_at form monday.day (length rows + 1) fields ≡ Ok row → Stands form text new (Some monday) (rows ++ row ∷ [])
stands_more form text old new first rows fields monday row h found at is =
    let m = rows-more known old new fields default_config st.StartRecord (strip_bom text) h.left h.past h.reads.config h.reads.source h.reached found.read in
    record {
      past = h.past ++ fields ∷ [];
      left = m.0;
      begun = begun_more form h.past rows first fields monday row h.begun at (rw (begun_length form h.past rows first h.begun) at is);
      reads = record { config = found.reads.config; trim = found.reads.trim; flexible = found.reads.flexible; ready = found.reads.ready; source = m.1 };
      reached = m.2;
    }

-- a record has no Monday where stamps need one
pub stands_no_monday : (form : Form) (text : List ℕ) (old new : BytesReader) (first : Option Monday) (rows : List Row) (fields : Record) (e : CsvError)
    → (h : Stands form text old first rows) → Found old new h.left fields → monday_for first fields ≡ Err e → rows_in form (records_of text) ≡ Err e
stands_no_monday form text old new first rows fields e h found bad =
    let n = next_read old.state (strip_bom text) h.left h.past found.next h.reached found.is in
    rw n.1 (begun_no_monday form h.past rows first found.next.0 n.0 e h.begun (rw found.same at bad))

-- a record has a fault
pub stands_fault : (form : Form) (text : List ℕ) (old new : BytesReader) (first : Option Monday) (rows : List Row) (fields : Record) (monday : Monday) (e : CsvError)
    → (h : Stands form text old first rows) → Found old new h.left fields → monday_for first fields ≡ Ok monday
    → row_at form monday.day (length rows + 1) fields ≡ Err e → rows_in form (records_of text) ≡ Err e
stands_fault form text old new first rows fields monday e h found is bad =
    let n = next_read old.state (strip_bom text) h.left h.past found.next h.reached found.is in
    rw n.1 (begun_fault form h.past rows first found.next.0 n.0 monday e h.begun (rw found.same at is)
    (rw (found.same, begun_length form h.past rows first h.begun) at bad))

-- all records were read
pub stands_all : (form : Form) (text : List ℕ) (old new : BytesReader) (monday : Monday) (rows : List Row) (fields : Record)
    (is : Bool) → Stands form text old (Some monday) rows → ReadRecord known old new is fields → is ≡ false
    → rows_in form (records_of text) ≡ Ok rows
stands_all form text old new monday rows fields is h reads none_found =
    let none = rows-end known old new fields default_config h.left h.reads.config h.reads.source (rw none_found at reads) in
    rw (all_read old.state (strip_bom text) h.left h.past h.reached none) (begun_all form h.past rows monday h.begun)

-- there was none
pub stands_none : (form : Form) (text : List ℕ) (old new : BytesReader) (rows : List Row) (fields : Record)
    (is : Bool) → Stands form text old None rows → ReadRecord known old new is fields → is ≡ false
    → rows_in form (records_of text) ≡ Err (fault.Word 1)
stands_none form text old new rows fields is h reads none_found =
    let none = rows-end known old new fields default_config h.left h.reads.config h.reads.source (rw none_found at reads) in
    rw (all_read old.state (strip_bom text) h.left h.past h.reached none) (begun_none form h.past rows h.begun)
