use Rattle.std.proofs.Common.{◌≡◌, ◌∙◌, true, false, refl}
use Rattle.std.specs.Str.{is_utf8}
use Rattle.std.specs.Str.Lossy.{utf8_valid_len}
use Rattle.std.proofs.lemmas.Bool.{false_from_ne_true}
use Rattle.std.proofs.lemmas.Str.{IsUtf8-from_is_utf8, is_utf8-from_IsUtf8}
use Rattle.desk_csv.specs.Reading.{records_of}
use Rattle.desk_csv.proofs.Belonging.{well_read, words, numbers}
use Rattle.desk_csv.proofs.reading.read_rows.Goals as goal

pub returns-in-Ok : goal.returns-in-Ok
returns-in-Ok c =
    let valid : is_utf8 c.args.text.now ≡ true = is_utf8-from_IsUtf8 c.args.text.now (rw c.as_slice-bytes.ensures at c.in-Ok.ensures.cases.1) in
    let is = rw c.as_slice-bytes.ensures at c.read_records.ensures.rows in
    let well = well_read c.args.form (records_of c.args.text.now) c.read_records.result is in
    record {
      rows = rw valid is;
      few = c.read_records.ensures.few;
      words = words c.args.form c.read_records.result well;
      numbers = numbers c.args.form c.read_records.result well;
    }

pub returns-in-Err-clause-rows : goal.returns-in-Err-clause-rows
returns-in-Err-clause-rows c =
    let wrong = rw c.as_slice-bytes.ensures at c.in-Err.ensures.cases.0 in
    let invalid : is_utf8 c.args.text.now ≡ false = false_from_ne_true (is_utf8 c.args.text.now) (λ h. wrong (IsUtf8-from_is_utf8 c.args.text.now h)) in
    let place : c.valid_up_to.result ≡ utf8_valid_len c.args.text.now = c.valid_up_to.ensures ∙ rw c.as_slice-bytes.ensures at c.in-Err.ensures.valid_len in
    λ told_apart. rw (invalid, place) refl
