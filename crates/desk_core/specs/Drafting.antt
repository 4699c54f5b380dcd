-- What a week text and the tables make of a draft.
use Rattle.std.specs.Prelude.{◌≡◌, ℕ, ◌+◌, ◌/◌, ◌==◌, if◌then◌else◌, ℤ, ◌-ℤ◌, int_le, unsigned_abs, Option, Some, None, IfSome, Result, Ok, Err, List, [], ◌∷◌, ◌++◌, length, map, slice_get}
use Rattle.minute_line.specs.declared.dates.Monday.{Monday}
use Rattle.minute_line.specs.Histories.{Fields, fields_of}
use Rattle.week_book.specs.declared.rows.Row.{Row}
use Rattle.week_book.specs.declared.weeks.Week.{Week}
use Rattle.week_book.specs.declared.weeks.Driver.{Driver}
use Rattle.week_book.specs.Checking.{week_of}
use Rattle.driver_history.specs.Advancing.{advance_of, idle_of}
use Rattle.duty_plan.specs.declared.duties.Duty.{Duty}
use Rattle.duty_plan.specs.declared.plans.Case.{Case}
use Rattle.duty_plan.specs.declared.outcomes.Limits.{Limits}
use Rattle.duty_plan.specs.declared.outcomes.Outcome.{Outcome}
use Rattle.duty_plan.specs.Duties.{IsCase, partial_of}
use Rattle.duty_plan.specs.Stints.{stints_of}
use Rattle.duty_plan.specs.Trees.{IsRight}
use Rattle.desk_csv.specs.DateTests.{monday_of}
use Rattle.desk_csv.specs.declared.errors.Form.TheVariants.{Plan}
use Rattle.desk_report.specs.Reports.{IsReportOf}
use Rattle.desk_report.specs.Exports.{IsExportOf}
use Rattle.desk_keeper.specs.declared.records.TheConstants.{DRAFT_LIMIT}
use Rattle.desk_keeper.specs.Tables.{Tables, KeptFields, DriverFields, DraftFields}
use Rattle.desk_keeper.specs.Entries.{history_in, issue_in, revision_in}
use Rattle.desk_core.specs.declared.refusals.Refusal.{Refusal}
use Rattle.desk_core.specs.declared.refusals.Refusal.TheVariants as because
use Rattle.desk_core.specs.Refusing.{◌>>=◌, refuse, rows_said}
use Rattle.desk_core.specs.Planning.{past_or_refusal, Book}
use Rattle.desk_core.specs.Books.{book}

-- a week text: its week, and for each driver the history that the text has, if it has one
pub record WeekText : Type 0 where
  pub week : Week
  pub past : List (Option Fields)

-- the histories that the rows have of more drivers, after those of others
abbrev pub pasts_read : List Row → List (Option Fields) → List Driver → Result (List (Option Fields)) Refusal
pasts_read rows before [] = Ok before
pasts_read rows before (driver ∷ drivers) = past_or_refusal rows driver.name >>= λ past. pasts_read rows (before ++ past ∷ []) drivers

-- what a week text comes to
abbrev pub text_said : List ℕ → Result WeekText Refusal
text_said text = do
  rows ← rows_said Plan text
  week ← refuse because.Week (week_of rows)
  past ← pasts_read rows [] week.drivers
  Ok (record { week = week; past = past })

-- the weeks from one Monday to a later one
abbrev pub weeks_between : ℤ → ℤ → ℕ
weeks_between from to = unsigned_abs (to -ℤ from) / 7

-- the refusal of a driver whose kept history leads up to a later Monday; each day up to which a history leads is a Monday
abbrev pub later : List ℕ → Option Monday → Refusal
later name (Some monday) = because.Later name monday
later name None = because.Kept name

-- a kept history, brought up to a Monday by weeks in which nothing is done
abbrev pub brought_up : ℤ → List ℕ → KeptFields → Result Fields Refusal
brought_up monday name kept =
    if int_le kept.monday monday then Ok (idle_of (weeks_between kept.monday monday) kept.past)
    else Err (later name (monday_of kept.monday))

-- the history that a driver is planned with: the text's or the kept one, of which just one is there
abbrev pub planned_with : ℤ → List ℕ → Option Fields → Option KeptFields → Result Fields Refusal
planned_with monday name (Some past) None = Ok past
planned_with monday name (Some past) (Some kept) = Err (because.Kept name)
planned_with monday name None (Some kept) = brought_up monday name kept
planned_with monday name None None = Err (because.NoHistory name)

-- the histories that more drivers are planned with, after those of others
abbrev pub all_planned_with : ℤ → Tables → List Fields → List Driver → List (Option Fields) → Result (List Fields) Refusal
all_planned_with monday tables before (driver ∷ drivers) (past ∷ pasts) =
    planned_with monday driver.name past (history_in tables driver.name) >>= λ with. all_planned_with monday tables (before ++ with ∷ []) drivers pasts
all_planned_with monday tables before _ _ = Ok before

-- the next draft of a week may be made: the week is not published, and has fewer drafts than there may be
abbrev pub revision_said : Monday → Tables → Result ℕ Refusal
revision_said monday tables = elim (issue_in tables monday.day) [
  | Some issue ↦ Err (because.Published monday issue.receipt)
  | None ↦ if revision_in tables monday.day == DRAFT_LIMIT then Err (because.DraftsFull monday) else Ok (revision_in tables monday.day + 1)
]

-- what is planned: a week with the histories of its drivers, and the revision of the draft
pub record Planned : Type 0 where
  pub book : Book
  pub revision : ℕ

-- what a week text comes to over the tables
abbrev pub planned : List ℕ → Tables → Result Planned Refusal
planned text tables = do
  read ← text_said text
  revision ← revision_said read.week.monday tables
  past ← all_planned_with read.week.monday.day tables [] read.week.drivers read.past
  Ok (record { book = record { week = read.week; past = past }; revision = revision })

-- a driver of a draft: what was seen of the driver, and the history after the duty
pub record IsDriverAfter (case : Case) (number : ℕ) (name : List ℕ) (duty : Duty) (seen : Option KeptFields) (fields : DriverFields) : Type 0 where
  pub named : fields.name ≡ name
  pub as_seen : fields.seen ≡ seen
  pub next : IfSome (slice_get case.past number) (λ past. fields.next ≡ advance_of (fields_of past) (stints_of case.week (partial_of duty)))

-- the drivers of a draft: those of the week, in their order, each after its duty
pub record AreDriversAfter (case : Case) (duties : List Duty) (seen : List (Option KeptFields)) (drivers : List DriverFields) : Type 0 where
  pub each : length drivers ≡ length case.week.drivers
  pub names : map (λ driver. driver.name) drivers ≡ map (λ driver. driver.name) case.week.drivers
  pub theirs : (k : ℕ) (driver : Driver) (duty : Duty) (was : Option KeptFields) (fields : DriverFields) → slice_get case.week.drivers k ≡ Some driver
      → slice_get duties k ≡ Some duty → slice_get seen k ≡ Some was → slice_get drivers k ≡ Some fields → IsDriverAfter case k driver.name duty was fields

-- the draft of an outcome
pub record IsDraftAfter (case : Case) (outcome : Outcome) (seen : List (Option KeptFields)) (number : ℕ) (draft : DraftFields) : Type 0 where
  pub monday : draft.monday ≡ case.week.monday.day
  pub revision : draft.revision ≡ number
  pub report : IsReportOf case outcome number draft.report
  pub export : IsExportOf case outcome draft.export
  pub drivers : AreDriversAfter case outcome.plan.duties seen draft.drivers

-- what is kept of each driver
abbrev pub kept_now : Tables → List Driver → List (Option KeptFields)
kept_now tables drivers = map (λ driver. history_in tables driver.name) drivers

-- the draft of what is planned: of an outcome that is right within the limits, with what is kept of the drivers now
pub record IsDraftOf (limits : Limits) (tables : Tables) (planned : Planned) (draft : DraftFields) : Type 0 where
  pub case : Case
  pub is_planned : book case ≡ planned.book
  pub valid : IsCase case
  pub outcome : Outcome
  pub right : IsRight case limits outcome
  pub made : IsDraftAfter case outcome (kept_now tables case.week.drivers) planned.revision draft

-- the draft that a command makes, or why it makes none
abbrev pub MakesDraft : Limits → Tables → Result Planned Refusal → Result DraftFields Refusal → Type 0
MakesDraft limits tables (Ok planned) (Ok draft) = IsDraftOf limits tables planned draft
MakesDraft limits tables (Err refusal) made = made ≡ Err refusal
MakesDraft limits tables (Ok planned) (Err refusal) = ⊥
