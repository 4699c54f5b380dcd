use Rattle.std.proofs.Common.{option_map}
use Rattle.desk_keeper.specs.Entries.{draft_in, issue_in}
use Rattle.desk_keeper.specs.Records.{draft_fields, issue_fields}
use Rattle.desk_core.proofs.Replying.{heard-on}
use Rattle.desk_core.proofs.showing.show.Goals as goal

pub returns-in_err-issue-clause-answer : goal.returns-in_err-issue-clause-answer
returns-in_err-issue-clause-answer g c =
    heard-on (option_map issue_fields) (λ text. text) c.from_residual.result c.in_err-issue.field-0.0 _ _ (λ t. issue_in t c.args.monday.day) _ c.from_residual.ensures c.in_err-issue.ensures.answer

pub returns-in_err-draft-clause-answer : goal.returns-in_err-draft-clause-answer
returns-in_err-draft-clause-answer g c =
    heard-on (option_map draft_fields) (λ text. text) c.from_residual-in_err-draft.result c.in_err-draft.field-0.0 _ _ (λ t. draft_in t c.args.monday.day) _ c.from_residual-in_err-draft.ensures
    c.in_err-draft.ensures.answer
