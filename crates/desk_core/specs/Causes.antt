-- Why a command is refused, said without the tables: it holds over every keeper.
use Rattle.std.specs.Prelude.{◌≡◌, ◌≢◌, ⊤, ℕ, ◌<ℤ◌, List, Option, Some, None, slice_get, Result, Ok, Err}
use Rattle.minute_line.specs.declared.dates.Monday.{Monday}
use Rattle.minute_line.specs.Histories.{Fields}
use Rattle.week_book.specs.declared.weeks.Driver.{Driver}
use Rattle.week_book.specs.declared.errors.WeekError.TheVariants as week
use Rattle.driver_history.specs.declared.errors.HistoryError.TheVariants as past
use Rattle.driver_history.specs.declared.errors.LineError.TheVariants as line
use Rattle.desk_csv.specs.declared.errors.CsvError.TheVariants as csv
use Rattle.desk_core.specs.declared.refusals.Refusal.{Refusal}
use Rattle.desk_core.specs.declared.refusals.Refusal.TheVariants as because
use Rattle.desk_core.specs.declared.refusals.Stop.{Stop}
use Rattle.desk_core.specs.declared.refusals.Stop.TheVariants.{Refused, Fault, Memory}

-- a refusal that is no want of memory: its line names a cause
abbrev pub HasCause : Refusal → Type 0
HasCause (because.Csv error) = error ≢ csv.Memory
HasCause (because.Week error) = error ≢ week.Memory
HasCause (because.Past name error) = error ≢ past.Memory
HasCause (because.Line name error) = error ≢ line.Memory
HasCause _ = ⊤

-- a stop for such a refusal, or for no refusal
abbrev pub StopsFor : (Refusal → Type 0) → Stop → Type 0
StopsFor why (Refused refusal) = why refusal
StopsFor why Fault = ⊤
StopsFor why Memory = ⊤

-- where a command is refused, it is for such a refusal
abbrev pub RefusedFor : {A : Type 0} → (Refusal → Type 0) → Result A Stop → Type 0
RefusedFor why (Ok value) = ⊤
RefusedFor why (Err stop) = StopsFor why stop

-- why the week of that Monday gets no further draft
abbrev pub IsWeekRefusal : Monday → Refusal → Type 0
IsWeekRefusal monday (because.Published of receipt) = of ≡ monday
IsWeekRefusal monday (because.DraftsFull of) = of ≡ monday
IsWeekRefusal monday _ = ⊥

-- why a driver, of whom the text has that history or none, has no history to plan the week with: the text has one, and another is
-- kept; or it has none, and what is kept leads past the week's Monday, or nothing is kept
abbrev pub IsHistoryRefusal : Monday → List ℕ → Option Fields → Refusal → Type 0
IsHistoryRefusal monday name (Some past) (because.Kept of) = of ≡ name
IsHistoryRefusal monday name None (because.Later of kept) = (of ≡ name) × (monday.day <ℤ kept.day)
IsHistoryRefusal monday name None (because.NoHistory of) = of ≡ name
IsHistoryRefusal monday name past _ = ⊥

-- a driver of a week text, with the history that the text has or none, is refused
pub record IsDriverRefusal (monday : Monday) (drivers : List Driver) (pasts : List (Option Fields)) (refusal : Refusal) : Type 0 where
  pub number : ℕ
  pub driver : Driver
  pub there : slice_get drivers number ≡ Some driver
  pub past : Option Fields
  pub its : slice_get pasts number ≡ Some past
  pub refused : IsHistoryRefusal monday driver.name past refusal

-- a driver was moved on since the draft was made
abbrev pub IsMoved : Refusal → Type 0
IsMoved (because.Moved name) = ⊤
IsMoved _ = ⊥

-- why a draft of that revision is not published
abbrev pub IsIssueRefusal : Monday → ℕ → Refusal → Type 0
IsIssueRefusal monday revision (because.Published of receipt) = of ≡ monday
IsIssueRefusal monday revision (because.NoDraft of) = of ≡ monday
IsIssueRefusal monday revision (because.Stale named now) = (named ≡ revision) × (now ≢ revision)
IsIssueRefusal monday revision refusal = IsMoved refusal

-- the week of that Monday has no draft
abbrev pub IsNoDraft : Monday → Refusal → Type 0
IsNoDraft monday refusal = refusal ≡ because.NoDraft monday
