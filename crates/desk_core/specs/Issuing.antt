-- What the tables say to a command that shows, exports or publishes a week.
use Rattle.std.specs.Prelude.{◌≡◌, ◌≢◌, ℕ, ◌<◌, ◌==◌, if◌then◌else◌, List, [], ◌∷◌, Option, Some, None, slice_get, Result, Ok, Err, codes}
use Rattle.std.specs.Fmt.{decimal}
use Rattle.minute_line.specs.declared.dates.Monday.{Monday}
use Rattle.minute_line.specs.DateWriting.{IsDayText}
use Rattle.minute_line.specs.Writing.{with_line}
use Rattle.desk_keeper.specs.Tables.{Tables, DriverFields, DraftFields, IssueFields}
use Rattle.desk_keeper.specs.Entries.{history_in, draft_in, issue_in}
use Rattle.desk_core.specs.declared.refusals.Refusal.{Refusal}
use Rattle.desk_core.specs.declared.refusals.Refusal.TheVariants as because

-- the report of an issue, and the line of its publication
abbrev pub issue_report : IssueFields → List ℕ
issue_report issue = with_line issue.report (codes "published") (decimal issue.receipt ∷ [])

-- what an issue, else a draft, says of a week; a week that has neither has no draft
abbrev pub week_said : (IssueFields → List ℕ) → (DraftFields → List ℕ) → Monday → Option IssueFields → Option DraftFields → Result (List ℕ) Refusal
week_said of_issue of_draft monday (Some issue) draft = Ok (of_issue issue)
week_said of_issue of_draft monday None (Some draft) = Ok (of_draft draft)
week_said of_issue of_draft monday None None = Err (because.NoDraft monday)

-- what is shown of a week
abbrev pub shown : Monday → Tables → Result (List ℕ) Refusal
shown monday tables = week_said issue_report (λ draft. draft.report) monday (issue_in tables monday.day) (draft_in tables monday.day)

-- what is exported of a week
abbrev pub exported : Monday → Tables → Result (List ℕ) Refusal
exported monday tables = week_said (λ issue. issue.export) (λ draft. draft.export) monday (issue_in tables monday.day) (draft_in tables monday.day)

-- the draft that stands of a week at that revision
abbrev pub draft_said : Monday → ℕ → Option IssueFields → Option DraftFields → Result DraftFields Refusal
draft_said monday revision (Some issue) draft = Err (because.Published monday issue.receipt)
draft_said monday revision None None = Err (because.NoDraft monday)
draft_said monday revision None (Some draft) = if draft.revision == revision then Ok draft else Err (because.Stale revision draft.revision)

-- what is kept of each driver is what was kept as the draft was made
abbrev pub AreAsSeen : Tables → List DriverFields → Type 0
AreAsSeen tables drivers = (k : ℕ) (driver : DriverFields) → slice_get drivers k ≡ Some driver → history_in tables driver.name ≡ driver.seen

-- the driver of that name is the first of whom something else is kept
pub record IsFirstMoved (tables : Tables) (drivers : List DriverFields) (name : List ℕ) : Type 0 where
  pub number : ℕ
  pub driver : DriverFields
  pub there : slice_get drivers number ≡ Some driver
  pub named : driver.name ≡ name
  pub moved : history_in tables name ≢ driver.seen
  pub before : (k : ℕ) (other : DriverFields) → k < number → slice_get drivers k ≡ Some other → history_in tables other.name ≡ other.seen

-- the drivers of a draft are as they were seen, or the first who was moved on is refused
abbrev pub ExpectsAsSeen : Tables → List DriverFields → Result (Unit {0}) Refusal → Type 0
ExpectsAsSeen tables drivers (Ok done) = AreAsSeen tables drivers
ExpectsAsSeen tables drivers (Err refusal) = (name : List ℕ) × (refusal ≡ because.Moved name) × IsFirstMoved tables drivers name

-- a draft may be published, or it is refused for its first driver who was moved on
abbrev pub MayPublish : Tables → DraftFields → Result DraftFields Refusal → Type 0
MayPublish tables draft (Ok published) = (published ≡ draft) × ExpectsAsSeen tables draft.drivers (Ok tt)
MayPublish tables draft (Err refusal) = ExpectsAsSeen tables draft.drivers (Err refusal)

-- the draft that a command publishes, or why none is
abbrev pub PublishesDraft : Tables → Result DraftFields Refusal → Result DraftFields Refusal → Type 0
PublishesDraft tables (Ok draft) published = MayPublish tables draft published
PublishesDraft tables (Err refusal) published = published ≡ Err refusal

-- the draft of that revision of a week, which a command publishes, or why none is
abbrev pub Publishes : Monday → ℕ → Tables → Result DraftFields Refusal → Type 0
Publishes monday revision tables published =
    PublishesDraft tables (draft_said monday revision (issue_in tables monday.day) (draft_in tables monday.day)) published

-- the text is that of a publication
abbrev pub IsPublication : Monday → ℕ → List ℕ → Type 0
IsPublication monday receipt text = (day : List ℕ) × IsDayText monday.day day
    × (text ≡ with_line [] (codes "published") (day ∷ codes "receipt" ∷ decimal receipt ∷ []))
