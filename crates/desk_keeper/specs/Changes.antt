-- What a new draft and a publication make of the tables.
use Rattle.std.specs.Prelude.{◌≡◌, ℕ, ◌+◌, ℤ, pos, ◌+ℤ◌, Bool, not, cond, List, [], ◌∷◌, ◌++◌, filter, Some, None}
use Rattle.std.specs.Ordering.{int_eq}
use Rattle.std.specs.Str.{bytes_eq}
use Rattle.desk_keeper.specs.Tables.{Tables, DriverFields, DraftFields, IssueFields, RowFields}
use Rattle.desk_keeper.specs.Entries.{draft_in, issue_in, revision_in, next_receipt}

-- x in the place of the first element that passes, or at the end where none does
abbrev pub put : {X : Type 0} → (X → Bool) → X → List X → List X
put passes x [] = x ∷ []
put passes x (y ∷ ys) = cond (passes y) (x ∷ ys) (y ∷ put passes x ys)

-- the histories with this one in the place of the driver's
abbrev pub with_row : RowFields → List RowFields → List RowFields
with_row row rows = put (λ other. bytes_eq other.driver row.driver) row rows

-- what is kept of a driver once the week of that Monday is published: the history after it, up to the Monday that follows
abbrev pub row_after : ℤ → DriverFields → RowFields
row_after monday driver = record { driver = driver.name; kept = record { monday = monday +ℤ pos 7; past = driver.next } }

-- the histories, moved on by a published week
abbrev pub moved_on : ℤ → List DriverFields → List RowFields → List RowFields
moved_on monday [] rows = rows
moved_on monday (driver ∷ drivers) rows = moved_on monday drivers (with_row (row_after monday driver) rows)

-- the tables with this draft of its week
abbrev pub with_draft : DraftFields → Tables → Tables
with_draft draft tables = record {
  histories = tables.histories;
  drafts = put (λ other. int_eq other.monday draft.monday) draft tables.drafts;
  issues = tables.issues;
}

-- the drafts of the other weeks
abbrev pub without_draft : ℤ → List DraftFields → List DraftFields
without_draft monday drafts = filter (λ draft. not (int_eq draft.monday monday)) drafts

-- a draft as the issue of that receipt
abbrev pub issue_of : ℕ → DraftFields → IssueFields
issue_of receipt draft = record {
  receipt = receipt;
  monday = draft.monday;
  revision = draft.revision;
  report = draft.report;
  export = draft.export;
}

-- the tables with this draft published: it is no draft any more, and its drivers are moved on
abbrev pub with_issue : DraftFields → Tables → Tables
with_issue draft tables = record {
  histories = moved_on draft.monday draft.drivers tables.histories;
  drafts = without_draft draft.monday tables.drafts;
  issues = tables.issues ++ issue_of (next_receipt tables) draft ∷ [];
}

-- a draft that may be put: of a week that is not published, at the revision after the week's last
pub record IsNext (draft : DraftFields) (tables : Tables) : Type 0 where
  pub unpublished : issue_in tables draft.monday ≡ None
  pub revision : draft.revision ≡ revision_in tables draft.monday + 1

-- a draft that may be published: the one that stands, of a week that is not published
pub record IsStanding (draft : DraftFields) (tables : Tables) : Type 0 where
  pub unpublished : issue_in tables draft.monday ≡ None
  pub stands : draft_in tables draft.monday ≡ Some draft
