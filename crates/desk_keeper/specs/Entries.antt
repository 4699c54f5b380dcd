-- What the tables hold of a driver or of a week.
use Rattle.std.specs.Prelude.{ℕ, ◌+◌, ℤ, List, length, Option, option_map, unwrap_or, find}
use Rattle.std.specs.Ordering.{int_eq}
use Rattle.std.specs.Str.{bytes_eq}
use Rattle.desk_keeper.specs.Tables.{Tables, KeptFields, DraftFields, IssueFields}

-- what is kept of a driver
abbrev pub history_in : Tables → List ℕ → Option KeptFields
history_in tables driver = option_map (λ row. row.kept) (find (λ row. bytes_eq row.driver driver) tables.histories)

-- the draft of a week
abbrev pub draft_in : Tables → ℤ → Option DraftFields
draft_in tables monday = find (λ draft. int_eq draft.monday monday) tables.drafts

-- the issue of a week
abbrev pub issue_in : Tables → ℤ → Option IssueFields
issue_in tables monday = find (λ issue. int_eq issue.monday monday) tables.issues

-- how many drafts of a week there were, up to the last one that stands
abbrev pub revision_in : Tables → ℤ → ℕ
revision_in tables monday = unwrap_or (option_map (λ draft. draft.revision) (draft_in tables monday)) 0

-- the receipt of the next issue
abbrev pub next_receipt : Tables → ℕ
next_receipt tables = length tables.issues + 1
