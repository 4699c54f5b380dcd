-- Drafts, issues and rows as the tables hold them.
use Rattle.std.specs.Prelude.{map}
use Rattle.desk_keeper.specs.declared.records.Draft.{Draft}
use Rattle.desk_keeper.specs.declared.records.Issue.{Issue}
use Rattle.desk_keeper.specs.Tables.{driver_fields, DraftFields, IssueFields}

-- the fields of a draft
abbrev pub draft_fields : Draft → DraftFields
draft_fields draft = record {
  monday = draft.monday.day;
  revision = draft.revision;
  drivers = map driver_fields draft.drivers;
  report = draft.report;
  export = draft.export;
}

-- the fields of an issue
abbrev pub issue_fields : Issue → IssueFields
issue_fields issue = record {
  receipt = issue.receipt;
  monday = issue.monday.day;
  revision = issue.revision;
  report = issue.report;
  export = issue.export;
}
