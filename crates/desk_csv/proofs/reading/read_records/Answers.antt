use Rattle.std.proofs.Common.{◌∙◌, ◌≤◌, ◌+◌, [], inr, sym, refl, arith}
use Rattle.std.proofs.lemmas.Result.{err_from_is_err_and}
use Rattle.csv.specs.Reading.{Reached, strip_bom}
use Rattle.csv.specs.Records.{fields_of}
use Rattle.desk_csv.proofs.Standing.{found_next, stands_few, stands_narrow, stands_less, stands_more, stands_no_monday, stands_fault, stands_all, stands_none}
use Rattle.desk_csv.proofs.reading.read_records.Goals as goal

pub loop-rows-init : goal.loop-rows-init
unfolding Reached
loop-rows-init c =
    let fr = c.from_reader-reader.ensures in
    let e = c.has_headers.ensures in
    let f = c.flexible.ensures in
    record {
      past = [];
      left = strip_bom c.args.text.now;
      begun = (refl, c.new-rows.ensures);
      reads = record {
        config = rw (f, e) at fr.config ∙ c.new.ensures.config;
        flexible = rw f at fr.flexible;
        trim = rw (f, e) at fr.trim ∙ c.new.ensures.trim;
        ready = inr (inr (rw (f, e) at fr.has_headers, fr.headers));
        source = fr.source;
      };
      reached = (sym fr.state, refl);
    }

pub counted_from-requires : goal.counted_from-requires
counted_from-requires c =
    let l = c.loop-rows in
    let new = c.next_record.new in
    let at = c.in_ok-next_record in
    let fields = fields_of new.fields in
    let found = found_next c.args.form c.args.text.now l.reader new.reader l.first l.rows fields at.field-0 l.invariant at.ensures.reads at.ensures.ready at.ensures.flexible c.if-branch.true in
    let narrow = stands_narrow c.args.form c.args.text.now l.reader new.reader l.first l.rows fields l.invariant found in
    omega (arith, narrow, c.requires)

pub returns-in_err-monday-clause-rows : goal.returns-in_err-monday-clause-rows
returns-in_err-monday-clause-rows c =
    let l = c.loop-rows in
    let new = c.next_record.new in
    let at = c.in_ok-next_record in
    let fields = fields_of new.fields in
    let found = found_next c.args.form c.args.text.now l.reader new.reader l.first l.rows fields at.field-0 l.invariant at.ensures.reads at.ensures.ready at.ensures.flexible c.if-branch.true in
    let p = err_from_is_err_and c.from_residual-in_err-monday.result c.from_residual-in_err-monday.ensures.1 in
    rw (p.1, p.2) (λ told_apart. stands_no_monday c.args.form c.args.text.now l.reader new.reader l.first l.rows fields c.in_err-monday.field-0.0 l.invariant found
    (c.in_err-monday.ensures told_apart))

pub overflow_cast-len : goal.overflow_cast-len
overflow_cast-len c =
    let l = c.loop-rows in
    let few = stands_few c.args.form c.args.text.now l.reader l.first l.rows l.invariant in
    let small : c.len.result + 1 ≤ 1048577 = omega (arith, few, c.len.ensures, c.requires) in
    record { fits = omega arith }

pub overflow_add-len : goal.overflow_add-len
overflow_add-len c =
    let l = c.loop-rows in
    let few = stands_few c.args.form c.args.text.now l.reader l.first l.rows l.invariant in
    let small : c.len.result + 1 ≤ 1048577 = omega (arith, few, c.len.ensures, c.requires) in
    record { fits = omega arith }

pub read_row-requires : goal.read_row-requires
read_row-requires c =
    let l = c.loop-rows in
    let new = c.next_record.new in
    let at = c.in_ok-next_record in
    let fields = fields_of new.fields in
    let found = found_next c.args.form c.args.text.now l.reader new.reader l.first l.rows fields at.field-0 l.invariant at.ensures.reads at.ensures.ready at.ensures.flexible c.if-branch.true in
    let narrow = stands_narrow c.args.form c.args.text.now l.reader new.reader l.first l.rows fields l.invariant found in
    omega (arith, narrow, c.requires)

pub returns-in_err-row-clause-rows : goal.returns-in_err-row-clause-rows
returns-in_err-row-clause-rows c =
    let l = c.loop-rows in
    let new = c.next_record.new in
    let at = c.in_ok-next_record in
    let fields = fields_of new.fields in
    let found = found_next c.args.form c.args.text.now l.reader new.reader l.first l.rows fields at.field-0 l.invariant at.ensures.reads at.ensures.ready at.ensures.flexible c.if-branch.true in
    let p = err_from_is_err_and c.from_residual-in_err-row.result c.from_residual-in_err-row.ensures.1 in
    rw (p.1, p.2) (λ told_apart. stands_fault c.args.form c.args.text.now l.reader new.reader l.first l.rows fields c.in_ok-monday.monday c.in_err-row.field-0.0 l.invariant found
    c.in_ok-monday.ensures (rw c.len.ensures at (c.in_err-row.ensures told_apart)))

pub loop-rows-smaller : goal.loop-rows-smaller
loop-rows-smaller c =
    let l = c.loop-rows in
    let new = c.next_record.new in
    let at = c.in_ok-next_record in
    let fields = fields_of new.fields in
    let found = found_next c.args.form c.args.text.now l.reader new.reader l.first l.rows fields at.field-0 l.invariant at.ensures.reads at.ensures.ready at.ensures.flexible c.if-branch.true in
    stands_less c.args.form c.args.text.now l.reader new.reader l.first l.rows fields l.invariant found

pub loop-rows-preserved : goal.loop-rows-preserved
loop-rows-preserved c =
    let l = c.loop-rows in
    let new = c.next_record.new in
    let at = c.in_ok-next_record in
    let fields = fields_of new.fields in
    let found = found_next c.args.form c.args.text.now l.reader new.reader l.first l.rows fields at.field-0 l.invariant at.ensures.reads at.ensures.ready at.ensures.flexible c.if-branch.true in
    rw c.in_ok-push.ensures.ok (stands_more c.args.form c.args.text.now l.reader new.reader l.first l.rows fields c.in_ok-monday.monday c.in_ok-row.row l.invariant found
    c.in_ok-monday.ensures (rw c.len.ensures at c.in_ok-row.ensures))

pub returns-in-Some : goal.returns-in-Some
returns-in-Some c =
    let l = c.loop-rows in
    let new = c.next_record.new in
    let at = c.in_ok-next_record in
    let few = stands_few c.args.form c.args.text.now l.reader l.first l.rows l.invariant in
    record {
      rows = stands_all c.args.form c.args.text.now l.reader new.reader c.in-Some.field-0 l.rows (fields_of new.fields) at.field-0 (rw c.in-Some.is at l.invariant) at.ensures.reads c.if-branch.false;
      few = omega (arith, few, c.requires);
    }

pub returns-clause-rows : goal.returns-clause-rows
returns-clause-rows c =
    let l = c.loop-rows in
    let new = c.next_record.new in
    let at = c.in_ok-next_record in
    λ told_apart. stands_none c.args.form c.args.text.now l.reader new.reader l.rows (fields_of new.fields) at.field-0 (rw c.in-None.is at l.invariant) at.ensures.reads c.if-branch.false
