use Rattle.std.proofs.Common.{rules, tests, ◌≡◌, ap, ◌∙◌, sym, List, ℕ}
use Rattle.std.proofs.lemmas.Bool.{false≢true}
use Rattle.minute_line.specs.Histories.{fields_of, is_history}
use Rattle.minute_line.specs.Spelling.{spelling}
use Rattle.minute_line.specs.Tokens.{candidate_of, tokens_of, parts_of}
use Rattle.minute_line.proofs.Held.{is_history-fields_of}
use Rattle.minute_line.proofs.Runs.{read_again}
use Rattle.minute_line.proofs.reading.history_read.Goals as goal

pub returns-then-not-is_history-clause-back : goal.returns-then-not-is_history-clause-back
returns-then-not-is_history-clause-back c h e =
    let g : parts_of c.in_ok-candidate.candidate ≡ fields_of h = c.in_ok-candidate.ensures ∙ ap (λ (t : List ℕ). candidate_of (tokens_of t)) e ∙ read_again (fields_of h) (is_history-fields_of h) in
    false≢true (c.if-not-is_history.ensures ∙ ap is_history g ∙ is_history-fields_of h)

pub returns-then-ne-clause-back : goal.returns-then-ne-clause-back
returns-then-ne-clause-back c h e =
    let same : c.as_slice.result.now ≡ c.args.text.now =
    c.as_slice.ensures
    ∙ c.in_ok-again.ensures
    ∙ ap spelling (c.into_history-history.ensures ∙ c.in_ok-candidate.ensures ∙ ap (λ (t : List ℕ). candidate_of (tokens_of t)) e ∙ read_again (fields_of h) (is_history-fields_of h))
    ∙ sym e in
    let n = rw same at c.if-ne.ensures in
    search (rules, tests)

pub returns-clause-back : goal.returns-clause-back
returns-clause-back c h e = c.into_history-history.ensures ∙ c.in_ok-candidate.ensures ∙ ap (λ (t : List ℕ). candidate_of (tokens_of t)) e ∙ read_again (fields_of h) (is_history-fields_of h)
