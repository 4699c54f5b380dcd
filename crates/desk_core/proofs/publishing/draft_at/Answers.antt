use Rattle.std.proofs.Common.{ap, option_map}
use Rattle.desk_keeper.specs.Records.{draft_fields, issue_fields}
use Rattle.desk_keeper.proofs.Entries.{may_publish_now}
use Rattle.desk_core.proofs.publishing.draft_at.Goals as goal

pub returns-clause-standing : goal.returns-clause-standing
returns-clause-standing g c =
    may_publish_now (g.B.Keeper.tables c.args.keeper.now) (g.B.Keeper.tables c.issue_of.new.keeper) (g.B.Keeper.tables c.draft_of.new.keeper) c.args.monday.day
    (option_map issue_fields c.in_ok-issue.field-0) (option_map draft_fields c.in_ok-draft.field-0) (draft_fields c.in-Some-2.draft) c.in_ok-issue.ensures.tables
    c.in_ok-draft.ensures.tables (ap (option_map issue_fields) c.in_default.is) (ap (option_map draft_fields) c.in-Some-2.is) c.in_ok-issue.ensures.answer
    c.in_ok-draft.ensures.answer
