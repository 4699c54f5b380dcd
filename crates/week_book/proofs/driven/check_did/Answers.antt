use Rattle.std.proofs.Common.{◌∙◌, Ok, [], length, sym, ap, subst, arith}
use Rattle.std.proofs.lemmas.Result.{err_from_is_err_and}
use Rattle.week_book.specs.Pasts.{HasPastRows}
use Rattle.week_book.specs.Driven.{driven, did_fault, did_of}
use Rattle.week_book.proofs.Faultless.{refused, did_faultless}
use Rattle.week_book.proofs.History.{has_past_rows}
use Rattle.week_book.proofs.Meetings.{driven_length}
use Rattle.week_book.proofs.driven.check_did.Goals as goal

pub check_rows-requires-clause-few : goal.check_rows-requires-clause-few
check_rows-requires-clause-few c =
    let rows = c.as_slice-rows.result.now in
    omega (arith, ap length c.in_ok-drivers.ensures, driven_length [] rows, ap length c.as_slice-rows.ensures, c.requires.few)

pub returns-in_err-check_rows-clause-names : goal.returns-in_err-check_rows-clause-names
returns-in_err-check_rows-clause-names c =
    let p = err_from_is_err_and c.from_residual-in_err-check_rows.result c.from_residual-in_err-check_rows.ensures.1 in
    let rows = c.as_slice-rows.result.now in
    rw (p.1, p.2) (λ other. sym (ap did_of c.as_slice-rows.ensures) ∙ refused (did_fault rows) (Ok (driven rows)) _ (c.in_err-check_rows.ensures other))

pub returns-clause-rows : goal.returns-clause-rows
returns-clause-rows c =
    let rows = c.as_slice-rows.result.now in
    let none = did_faultless rows c.in_ok-check_rows.ensures in
    subst HasPastRows c.as_slice-rows.ensures (has_past_rows rows (omega (arith, ap length c.as_slice-rows.ensures, c.requires.few)) none.0 none.1)
