use Rattle.std.proofs.Common.{◌∙◌, sym, ap, List, ℕ}
use Rattle.minute_line.specs.Tokens.{candidate_of, tokens_of}
use Rattle.minute_line.specs.Histories.{fields_of}
use Rattle.minute_line.proofs.Held.{is_history-fields_of}
use Rattle.minute_line.proofs.Runs.{read_again}
use Rattle.minute_line.proofs.spelling.text_says_all.Goals as goal

pub returns : goal.returns
returns c =
    sym (read_again (fields_of c.args.one.now) (is_history-fields_of c.args.one.now))
    ∙ ap (λ (t : List ℕ). candidate_of (tokens_of t)) c.requires
    ∙ read_again (fields_of c.args.other.now) (is_history-fields_of c.args.other.now)
