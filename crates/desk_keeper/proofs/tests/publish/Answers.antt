use Rattle.std.proofs.Common.{ap, option_map}
use Rattle.desk_keeper.proofs.Entries.{may_publish_now}
use Rattle.desk_keeper.specs.Records.{draft_fields, issue_fields}
use Rattle.desk_keeper.proofs.tests.publish.Goals as goal

pub publish-requires : goal.publish-requires
publish-requires g c = record {
  standing = may_publish_now (g.B.Keeper.tables c.args.keeper.now) (g.B.Keeper.tables c.published.new.self) (g.B.Keeper.tables c.draft.new.self) c.args.monday.day
      (option_map issue_fields c.in_ok-published.field-0) (option_map draft_fields c.in_ok-draft.field-0) (draft_fields c.in-Some.draft)
      c.in_ok-published.ensures.tables c.in_ok-draft.ensures.tables (ap (option_map issue_fields) c.in-None.is) (ap (option_map draft_fields) c.in-Some.is)
      c.in_ok-published.ensures.answer c.in_ok-draft.ensures.answer;
}
