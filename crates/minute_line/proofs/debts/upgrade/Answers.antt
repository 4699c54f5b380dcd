use Rattle.std.proofs.Common.{rules, ◌≡◌, ◌∙◌, sym, ap, ℕ, ◌++◌}
use Rattle.minute_line.specs.Histories.{fields_of}
use Rattle.minute_line.specs.Debts.{with_rest_debt, with_own_debt}
use Rattle.minute_line.specs.Spelling.{older_spelling}
use Rattle.minute_line.proofs.Held.{is_history-fields_of}
use Rattle.minute_line.proofs.Older.{debtless, debtless_text, no_debt_text, older_is}
use Rattle.minute_line.proofs.debts.upgrade.Goals as goal

pub returns-in_err-history-clause-back : goal.returns-in_err-history-clause-back
returns-in_err-history-clause-back c h e =
    let whole : c.as_slice-2.result.now ≡ c.args.text.now ++ no_debt_text = search rules in
    let read = c.in_err-history.ensures.back (debtless h) (whole ∙ debtless_text c.args.text.now h e) in
    search rules

pub returns-clause-found : goal.returns-clause-found
returns-clause-found c =
    let whole : c.as_slice-2.result.now ≡ c.args.text.now ++ no_debt_text = search rules in
    let older = older_is c.args.text.now (fields_of c.in_ok-history.history) (is_history-fields_of c.in_ok-history.history) (sym whole ∙ c.in_ok-history.ensures.found) in
    older ∙ sym (ap older_spelling c.with_rest_debt.ensures)

pub returns-clause-back : goal.returns-clause-back
returns-clause-back c h e =
    let whole : c.as_slice-2.result.now ≡ c.args.text.now ++ no_debt_text = search rules in
    let read = c.in_ok-history.ensures.back (debtless h) (whole ∙ debtless_text c.args.text.now h e) in
    c.with_rest_debt.ensures
    ∙ ap (λ (ago : ℕ). with_rest_debt c.in_ok-history.history.prev_weekly ago (fields_of c.in_ok-history.history)) c.minutes_since_rest-ago.ensures
    ∙ ap with_own_debt read
